-- What the code finds of an expression, against what the definitions say of it.
use Rattle.std.specs.Prelude.{◌≡◌, Bool, true, Option, IfSome, IsSome}
use Rattle.vs_const.specs.declared.forms.Form.{Form}
use Rattle.vs_const.specs.declared.found.Found.{Found}
use Rattle.vs_const.specs.Typed.{Typed}
use Rattle.vs_const.specs.Checks.{Checks}
use Rattle.vs_const.specs.Forms.{expression, IsForm, IsValued}

-- it is the expression, whose value no fault leaves undefined
pub record IsOf (f : Form) (t : Typed) : Type 0 where
  pub same : expression f ≡ t.expression
  pub well : IsForm f
  pub good : t.good ≡ true

-- an expression is kept where it is needed and good
pub record Keeps (needed : Bool) (o : Option Form) (t : Typed) : Type 0 where
  pub sound : IfSome o (λ f. IsOf f t)
  pub full : needed ≡ true → t.good ≡ true → IsSome o

-- what is told is so, and what is kept is the expression
pub record Finds (needed : Bool) (c : Found) (t : Typed) : Type 0 where
  pub checks : Checks c.said t
  pub keeps : Keeps needed c.form t

-- its value can be told
abbrev pub AreValued : Option Form → Type 0
AreValued o = IfSome o IsValued

-- and, where it is kept, its value can be told
pub record Says (needed : Bool) (c : Found) (t : Typed) : Type 0 where
  pub finds : Finds needed c t
  pub valued : AreValued c.form
