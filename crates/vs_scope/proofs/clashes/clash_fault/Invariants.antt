use Rattle.std.proofs.Common.{map, drop}
use Rattle.vs_scope.specs.Clashes.{block_of}
use Rattle.vs_maps.specs.Sets.{has}
use Rattle.vs_scope.specs.Views.{entries}
use Rattle.vs_scope.proofs.ClashSteps.{AreClashing}
use Rattle.vs_scope.proofs.clashes.clash_fault.Given as goal

abbrev pub invariant-loop-b : goal.invariant-loop-b
invariant-loop-b l = AreClashing (entries l.names) (has l.seen) l.fault (map block_of (drop l.b-index l.blocks)) (map block_of l.blocks)
