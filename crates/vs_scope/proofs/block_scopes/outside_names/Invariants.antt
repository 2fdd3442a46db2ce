use Rattle.std.proofs.Common.{◌≡◌, ◌++◌, map, drop}
use Rattle.vs_elaborated.specs.NamedBlocks as spec
use Rattle.vs_scope.specs.Made.{block_name}
use Rattle.vs_scope.specs.NamedBlocks.{named}
use Rattle.vs_scope.proofs.block_scopes.outside_names.Given as goal

abbrev pub invariant-loop-b : goal.invariant-loop-b
invariant-loop-b l = map block_name l.names.items ++ spec.names_outside (map named (drop l.b-index l.blocks)) ≡ spec.names_outside (map named l.blocks)
