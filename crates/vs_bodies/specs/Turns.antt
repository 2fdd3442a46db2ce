-- What the head of a loop says.
use Rattle.std.specs.Prelude.{◌≡◌, IfSome, length}
use Rattle.vs_const.specs.Faults.{least}
use Rattle.vs_const.specs.Typed.{Typed}
use Rattle.vs_elaborated.specs.Statements as statements
use Rattle.vs_elaborated.specs.Statements.{goes_on}
use Rattle.vs_bodies.specs.declared.turns.Given.{Given}
use Rattle.vs_bodies.specs.declared.turns.Tested.{Tested}

-- what an integer is given
pub record IsGiven (g : Given) (t : Typed) : Type 0 where
  pub fault : g.fault ≡ least t.faults
  pub bits : g.bits ≡ statements.given t
  pub length : IfSome g.bits (λ b. length b ≡ 32)

-- what a test says
pub record IsTested (g : Tested) (t : Typed) : Type 0 where
  pub fault : g.fault ≡ least t.faults
  pub goes_on : g.goes_on ≡ goes_on t
