-- What an integer is given by a constant that is kept, and whether a test that is kept is 1.
use Rattle.std.proofs.Common.{◌≡◌, Bool, true, false, ◌&&◌, if◌then◌else◌, Some, None, refl, sym, ap, ◌∙◌}
use Rattle.vs_four.specs.Logic.{BitList, truth}
use Rattle.vs_four.specs.Tables.{is_one}
use Rattle.vs_design.specs.Expressions.{Expression}
use Rattle.vs_design.specs.Values.{unset, assigned_value, constant_value}
use Rattle.vs_const.specs.declared.forms.Form.{Form}
use Rattle.vs_const.specs.Forms.{expression}
use Rattle.vs_const.specs.Found.{IsOf, Keeps}
use Rattle.vs_const.specs.Typed.{Typed}
use Rattle.vs_elaborated.specs.Statements.{given, goes_on}

-- nothing is kept of a needed constant that a fault leaves undefined, and of no other
undefined_is : (t : Typed) → Keeps true None t → t.good ≡ false
undefined_is t k = by t.good refl
  where
    by : (g : Bool) → t.good ≡ g → g ≡ false
    by true e = let h : false ≡ true = k.full refl e in cc
    by false e = refl

pub none_given : (t : Typed) → Keeps true None t → None ≡ given t
none_given t k = sym (ap (λ (g : Bool). if g then Some (assigned_value t.expression 32 unset) else None) (undefined_is t k))

pub some_given : (f : Form) (t : Typed) (bits : BitList) → Keeps true (Some f) t → bits ≡ assigned_value (expression f) 32 unset → Some bits ≡ given t
some_given f t bits k e =
    let s : IsOf f t = k.sound in
    ap Some (e ∙ ap (λ (x : Expression). assigned_value x 32 unset) s.same)
    ∙ sym (ap (λ (g : Bool). if g then Some (assigned_value t.expression 32 unset) else None) s.good)

pub none_ends : (t : Typed) → Keeps true None t → false ≡ goes_on t
none_ends t k = sym (ap (λ (g : Bool). g && is_one (truth (constant_value t.expression))) (undefined_is t k))

pub some_goes_on : (f : Form) (t : Typed) (r : Bool) → Keeps true (Some f) t → r ≡ is_one (truth (constant_value (expression f))) → r ≡ goes_on t
some_goes_on f t r k e =
    let s : IsOf f t = k.sound in
    e ∙ ap (λ (x : Expression). is_one (truth (constant_value x))) s.same ∙ sym (ap (λ (g : Bool). g && is_one (truth (constant_value t.expression))) s.good)
