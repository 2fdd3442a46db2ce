use Rattle.std.proofs.Common.{drop}
use Rattle.vs_scope.proofs.BlockNames.{AreRepeating, texts_of}
use Rattle.vs_scope.proofs.block_scopes.repeated_fault.Given as goal

abbrev pub invariant-loop-b : goal.invariant-loop-b
invariant-loop-b l = AreRepeating (texts_of l.locals) l.known l.fault (drop l.b-index l.blocks) l.blocks
