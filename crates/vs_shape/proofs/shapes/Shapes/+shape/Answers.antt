use Rattle.vs_shape.proofs.Results.{shape_of_call}
use Rattle.std.proofs.Common.{sym, ap, ◌∙◌}
use Rattle.vs_design.specs.Expressions as E
use Rattle.vs_flat.specs.Arena.{Arena}
use Rattle.vs_flat.specs.declared.expressions.Node.{Node}
use Rattle.vs_shape.specs.Nodes.{tree_of, place_of, tree_of_node}
use Rattle.vs_shape.specs.Shapes.{shape_of}
use Rattle.vs_flat.specs.Trees.{signal_at}
use Rattle.vs_flat.specs.DesignOf.{arena_signals}
use Rattle.vs_shape.proofs.Joined.{shape_of_join}
use Rattle.vs_shape.proofs.shapes.Shapes.+shape.Goals as goal

pub returns-after-loop-part : goal.returns-after-loop-part
returns-after-loop-part t c =
    shape_of_join c.args.self.now c.self.inside.flat c.args.e c.copy_count.result c.loop-part.part-index c.node_of.result.now c.in-Join.parts c.as_slice.result.now c.as_slice-in-Join.result.now c.first_copy-part-items.result.now
    c.loop-part.all c.repeat_shape.result c.self.view_is c.node_of.ensures.tree c.in-Join.is c.first_copy-part-items.ensures.copy c.as_slice.ensures c.loop-part.invariant c.loop-part-test.false c.copy_count.ensures c.as_slice-in-Join.ensures
    c.repeat_shape.ensures

pub returns-in-Call : goal.returns-in-Call
returns-in-Call t c = shape_of_call c.args.self.now c.self.inside.flat c.args.e c.in-Call.function _ c.node_of.result.now c.result_shape.result c.self.view_is c.node_of.ensures.tree c.in-Call.is c.result_shape.ensures

pub returns-in-Word : goal.returns-in-Word
returns-in-Word t c =
    let kept = c.self.inside.flat in
    let e = c.args.e in
    c.word_shape.ensures (tree_of kept c.in-Word.index) ∙ sym (ap (λ (n : Node). shape_of (E.At (place_of kept e) (tree_of_node kept n))) c.in-Word.is) ∙ sym (ap shape_of c.node_of.ensures.tree) ∙ ap (λ (x : Arena). shape_of (tree_of x e)) c.self.view_is

pub returns-in-WordPart : goal.returns-in-WordPart
returns-in-WordPart t c =
    let kept = c.self.inside.flat in
    let e = c.args.e in
    c.word_part_shape.ensures (signal_at (arena_signals kept) c.in-WordPart.signal) (tree_of kept c.in-WordPart.address) (tree_of kept c.in-WordPart.base) c.in-WordPart.range c.in-WordPart.up
    ∙ sym (ap (λ (n : Node). shape_of (E.At (place_of kept e) (tree_of_node kept n))) c.in-WordPart.is) ∙ sym (ap shape_of c.node_of.ensures.tree) ∙ ap (λ (x : Arena). shape_of (tree_of x e)) c.self.view_is
