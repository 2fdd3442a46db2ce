-- What is found of a constant.
use Rattle.std.proofs.Common.{◌≡◌, Bool, true, false, Option, Some, None, IfSome, IsSome, refl, subst}
use Rattle.vs_const.specs.declared.found.Found.{Found}
use Rattle.vs_const.specs.declared.forms.Form.{Form}
use Rattle.vs_const.specs.Found.{Says, IsOf}
use Rattle.vs_const.specs.Typed.{Typed}

pub says_good : (c : Found) (t : Typed) (f : Form) → Says true c t → c.form ≡ Some f → IsOf f t
says_good c t f h e = subst (λ (o : Option Form). IfSome o (λ g. IsOf g t)) e h.finds.keeps.sound

some_none : (o : Option Form) → IsSome o → o ≡ None → ⊥
some_none None h e = cc
some_none (Some f) h e = cc

pub says_bad : (c : Found) (t : Typed) → Says true c t → c.form ≡ None → t.good ≡ false
says_bad c t h e = by t.good refl
  where
    by : (b : Bool) → t.good ≡ b → t.good ≡ false
    by true g = absurd (some_none c.form (h.finds.keeps.full refl g) e)
    by false g = g
