use Rattle.std.proofs.Common.{map, flat_map, drop}
use Rattle.vs_elaborated.specs.NamedBlocks as spec
use Rattle.vs_scope.specs.NamedBlocks.{named}
use Rattle.vs_scope.specs.SoFar.{IsFirstSoFar}
use Rattle.vs_scope.proofs.block_scopes.within_fault.Given as goal

abbrev pub invariant-loop-b : goal.invariant-loop-b
invariant-loop-b l = IsFirstSoFar l.fault (flat_map spec.clashes_within (map named (drop l.b-index l.blocks))) (flat_map spec.clashes_within (map named l.blocks))
