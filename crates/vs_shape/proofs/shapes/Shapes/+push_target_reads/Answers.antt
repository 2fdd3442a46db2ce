use Rattle.std.proofs.Common.{arith, rules, ap, ◌∙◌}
use Rattle.std.proofs.lemmas.Grind.{common_steps}
use Rattle.vs_flat.specs.DesignOf.{arena_signals}
use Rattle.vs_flat.specs.Trees.{signal_at, target_tree}
use Rattle.vs_flat.specs.declared.expressions.Node.TheVariants as N
use Rattle.vs_shape.specs.Nodes.{tree_of}
use Rattle.vs_shape.specs.Gathered.{gathered, gathered_target}
use Rattle.vs_shape.proofs.Gathering.{both_gathered, indices_gathered, tree_is, two_added}
use Rattle.vs_shape.proofs.TargetParts.{target_part, all_targets}
use Rattle.vs_shape.proofs.shapes.Shapes.+push_target_reads.Goals as goal

pub push_target_reads-requires : goal.push_target_reads-requires
push_target_reads-requires t c = (
  first_of (search rules, grind (arith, common_steps)),
  (
    first_of (search rules, grind (arith, common_steps)),
    target_part c.args.self.now c.flat-flat.result.now c.args.e c.node_of.result.now c.in-Join.parts c.as_slice.result.now c.first_copy-part-items.result.now c.flat-flat.ensures.same c.node_of.ensures.tree c.in-Join.is
        c.first_copy-part-items.ensures.copy c.as_slice.ensures c.requires.target c.loop-part.part-index c.loop-part-test.true,
  ),
)

pub returns-after-loop-part : goal.returns-after-loop-part
returns-after-loop-part t c =
    all_targets c.args.self.now c.flat-flat.result.now c.args.e c.node_of.result.now c.in-Join.parts c.as_slice.result.now c.first_copy-part-items.result.now c.flat-flat.ensures.same c.node_of.ensures.tree c.in-Join.is
    c.first_copy-part-items.ensures.copy c.as_slice.ensures c.requires.target (gathered_target c.args.whole) (both_gathered c.args.whole) c.loop-part.part-index c.loop-part.out.items c.args.out.now.items c.loop-part-test.false c.loop-part.invariant

pub returns-in_ok-push_reads-in-WordPart : goal.returns-in_ok-push_reads-in-WordPart
returns-in_ok-push_reads-in-WordPart t c =
    let a = c.args.self.now in
    let w = c.args.whole in
    two_added c.push_reads-in-WordPart-2.result c.args.out.now.items c.push_reads-in-WordPart.new.out.items c.push_reads-in-WordPart-2.new.out.items (gathered w (tree_of a c.in-WordPart.address)) (gathered w (tree_of a c.in-WordPart.base))
    (gathered_target w (target_tree (tree_of a c.args.e))) c.in_ok-push_reads-in-WordPart.ensures c.push_reads-in-WordPart-2.ensures
    (ap (λ e. gathered_target w (target_tree e)) (tree_is a c.flat-flat.result.now c.args.e c.node_of.result.now (N.WordPart c.in-WordPart.signal c.in-WordPart.address c.in-WordPart.range c.in-WordPart.base c.in-WordPart.up c.in-WordPart.width) c.flat-flat.ensures.same c.node_of.ensures.tree c.in-WordPart.is)
    ∙ indices_gathered w (signal_at (arena_signals a) c.in-WordPart.signal) (tree_of a c.in-WordPart.address) (record { range = c.in-WordPart.range; up = c.in-WordPart.up; width = c.in-WordPart.width }) (tree_of a c.in-WordPart.base))
