use Rattle.std.proofs.Common.{◌≡◌, ◌++◌, map, drop}
use Rattle.vs_scope.specs.Clashes.{blocks_of}
use Rattle.vs_scope.specs.Made.{block_name}
use Rattle.vs_scope.proofs.clashes.all_names.Given as goal

abbrev pub invariant-loop-m : goal.invariant-loop-m
invariant-loop-m l = map block_name l.names.items ++ blocks_of (drop l.m-index l.made) ≡ blocks_of l.made
