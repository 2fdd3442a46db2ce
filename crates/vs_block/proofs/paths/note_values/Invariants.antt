use Rattle.std.proofs.Common.{◌≡◌, map, take}
use Rattle.vs_design.specs.Expressions.{items_of}
use Rattle.vs_design.specs.Footprints.{items_reads}
use Rattle.vs_shape.specs.Nodes.{tree_of}
use Rattle.vs_block.proofs.paths.note_values.Given as goal

abbrev pub invariant-loop-item : goal.invariant-loop-item
invariant-loop-item l = l.read.items ≡ items_reads (items_of (map (tree_of l.shapes) (take l.item-index l.items)))
