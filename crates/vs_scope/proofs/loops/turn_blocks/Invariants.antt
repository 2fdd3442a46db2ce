use Rattle.std.proofs.Common.{◌≡◌, ◌++◌, map, drop}
use Rattle.vs_elaborated.specs.Loops as spec
use Rattle.vs_scope.specs.Blocks.{block}
use Rattle.vs_scope.specs.Made.{nested}
use Rattle.vs_scope.proofs.loops.turn_blocks.Given as goal

abbrev pub invariant-loop-v : goal.invariant-loop-v
invariant-loop-v l = map nested l.blocks.items ++ spec.turn_blocks (block l.body) l.genvar (drop l.v-index l.values) ≡ spec.turn_blocks (block l.body) l.genvar l.values
