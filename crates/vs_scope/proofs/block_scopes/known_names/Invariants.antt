use Rattle.std.proofs.Common.{drop}
use Rattle.vs_scope.proofs.BlockNames.{AreAdded}
use Rattle.vs_scope.proofs.block_scopes.known_names.Given as goal

abbrev pub invariant-loop-v : goal.invariant-loop-v
invariant-loop-v l = AreAdded l.known (drop l.v-index l.locals) l.locals
