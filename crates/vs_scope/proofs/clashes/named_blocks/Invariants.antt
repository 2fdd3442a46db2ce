use Rattle.std.proofs.Common.{◌≡◌, ◌++◌, map, drop}
use Rattle.vs_scope.specs.Clashes.{block_of, text_of}
use Rattle.vs_scope.proofs.clashes.named_blocks.Given as goal

abbrev pub invariant-loop-name : goal.invariant-loop-name
invariant-loop-name l = map block_of l.blocks.items ++ map text_of (drop l.name-index l.names) ≡ map text_of l.names
