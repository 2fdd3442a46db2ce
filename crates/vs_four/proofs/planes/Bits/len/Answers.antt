use Rattle.std.proofs.Common.{sym}
use Rattle.vs_four.proofs.PlanesLemmas.{operand}
use Rattle.vs_four.proofs.planes.Bits.len.Goals as goal

pub returns-clause-length : goal.returns-clause-length
returns-clause-length c = let a = operand _ _ _ _ c.self.view_is c.self.invariant in sym a.count
