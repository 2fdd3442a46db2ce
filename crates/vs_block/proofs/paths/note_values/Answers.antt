use Rattle.std.proofs.Common.{◌++◌, get_or, ap, ◌∙◌}
use Rattle.vs_design.specs.Footprints.{read_bits}
use Rattle.vs_shape.specs.Nodes.{tree_of}
use Rattle.vs_block.proofs.Branching.{items_more}
use Rattle.vs_block.proofs.paths.note_values.Goals as goal

pub loop-item-preserved : goal.loop-item-preserved
loop-item-preserved c =
    let tree = tree_of c.args.shapes.now in
    let items = c.args.items.now in
    let i = c.loop-item.item-index in
    c.in_ok-push_reads.ensures ∙ ap (λ bs. bs ++ read_bits (tree (get_or items i 0))) c.loop-item.invariant ∙ items_more tree items i c.loop-item-test.true
