-- What a statement says as a whole.
use Rattle.std.specs.Prelude.{◌≡◌}
use Rattle.vs_const.specs.CallDepths.{calls_in}
use Rattle.vs_const.specs.Faults.{least}
use Rattle.vs_elaborated.specs.Statements.{TypedStatement}
use Rattle.vs_bodies.specs.declared.said.StatementSaid.{StatementSaid}

pub record IsSaid (c : StatementSaid) (t : TypedStatement) : Type 0 where
  pub fault : c.fault ≡ least t.faults
  pub copies : c.copies ≡ t.copies
  pub depth : c.depth ≡ calls_in t.statement
