-- `$clog2` of a constant that is there.
use Rattle.std.proofs.Common.{◌≡◌, ℕ, Bool, Option, sym, ap, ◌∙◌, subst}
use Rattle.vs_four.specs.Numbers.{clog2}
use Rattle.vs_design.specs.Values.{constant_value}
use Rattle.vs_const.specs.declared.forms.Form.{Form}
use Rattle.vs_const.specs.declared.found.Found.{Found}
use Rattle.vs_const.specs.Typed.{Typed}
use Rattle.vs_const.specs.Expressions.{clog2_of, clog2_typed}
use Rattle.vs_const.specs.Forms.{expression}
use Rattle.vs_const.specs.Found.{IsOf, Finds}

pub clog2_found : (needed : Bool) (place : ℕ) (t : Typed) (f : Form) (n : Option ℕ) (r : Found) → IsOf f t → n ≡ clog2 (constant_value (expression f)) → Finds needed r (clog2_of n place t.faults) → Finds needed r (clog2_typed t.good place t)
clog2_found needed place t f n r k e h =
    subst (λ b. Finds needed r (clog2_typed b place t)) (sym k.good) (subst (λ o. Finds needed r (clog2_of o place t.faults)) (e ∙ ap (λ z. clog2 (constant_value z)) k.same) h)
