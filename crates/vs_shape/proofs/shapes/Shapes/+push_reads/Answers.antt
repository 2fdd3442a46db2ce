use Rattle.std.proofs.Common.{arith, rules, ◌∙◌, ◌++◌, refl}
use Rattle.std.proofs.lemmas.Grind.{common_steps}
use Rattle.vs_four.specs.Selects.{one_bit}
use Rattle.vs_flat.specs.Targets.{source_of}
use Rattle.vs_flat.specs.declared.expressions.Node.TheVariants as N
use Rattle.vs_shape.specs.Nodes.{tree_of}
use Rattle.vs_shape.specs.Gathered.{gathered}
use Rattle.vs_shape.proofs.Gathering.{with_argument, argument_fits, with_part, two_added, gathered_node, gathered_select, word_part_gathered, binary_gathered, choice_gathered, part_fits}
use Rattle.vs_flat.specs.Trees.{signal_at}
use Rattle.vs_flat.specs.DesignOf.{arena_signals}
use Rattle.vs_shape.proofs.Addressed.{word_gathered}
use Rattle.vs_shape.proofs.shapes.Shapes.+push_reads.Goals as goal

pub push_reads-requires-in-loop-part : goal.push_reads-requires-in-loop-part
push_reads-requires-in-loop-part t c = (
  first_of (search rules, grind (arith, common_steps)),
  (
    first_of (search rules, grind (arith, common_steps)),
    part_fits c.args.self.now c.flat-flat.result.now c.args.e c.loop-part.part-index c.node_of.result.now c.in-Join.parts c.as_slice.result.now c.first_copy-part-items.result.now c.flat-flat.ensures.same c.node_of.ensures.tree c.in-Join.is
        c.first_copy-part-items.ensures.copy c.as_slice.ensures c.requires.fits c.loop-part-test.true,
  ),
)

pub loop-part-preserved : goal.loop-part-preserved
loop-part-preserved t c =
    with_part c.args.whole (tree_of c.args.self.now) c.first_copy-part-items.result.now c.loop-part.part-index c.loop-part.out.items c.push_reads-in-loop-part.new.out.items _ c.loop-part-test.true c.loop-part.invariant
    c.in_ok-push_reads-in-Join.ensures

pub returns-in_ok-push_source-in-Bit : goal.returns-in_ok-push_source-in-Bit
returns-in_ok-push_source-in-Bit t c =
    let a = c.args.self.now in
    let w = c.args.whole in
    two_added c.push_reads.result c.args.out.now.items c.push_source.new.out.items c.push_reads.new.out.items _ _ (gathered w (tree_of a c.args.e)) c.in_ok-push_source-in-Bit.ensures c.push_reads.ensures
    (gathered_node a c.flat-flat.result.now c.args.e c.node_of.result.now w c.flat-flat.ensures.same c.node_of.ensures.tree (N.Bit c.in-Bit.of c.in-Bit.range c.in-Bit.index) c.in-Bit.is
    ∙ gathered_select w (source_of (tree_of a c.in-Bit.of)) (one_bit c.in-Bit.range) (tree_of a c.in-Bit.index))

pub returns-in_ok-push_source-in-Part : goal.returns-in_ok-push_source-in-Part
returns-in_ok-push_source-in-Part t c =
    let a = c.args.self.now in
    let w = c.args.whole in
    two_added c.push_reads-in-Part.result c.args.out.now.items c.push_source-in-Part.new.out.items c.push_reads-in-Part.new.out.items _ _ (gathered w (tree_of a c.args.e)) c.in_ok-push_source-in-Part.ensures c.push_reads-in-Part.ensures
    (gathered_node a c.flat-flat.result.now c.args.e c.node_of.result.now w c.flat-flat.ensures.same c.node_of.ensures.tree (N.Part c.in-Part.of c.in-Part.range c.in-Part.base c.in-Part.up c.in-Part.width) c.in-Part.is
    ∙ gathered_select w (source_of (tree_of a c.in-Part.of)) (record { range = c.in-Part.range; up = c.in-Part.up; width = c.in-Part.width }) (tree_of a c.in-Part.base))

pub returns-in_ok-push_addressed-in-Word : goal.returns-in_ok-push_addressed-in-Word
returns-in_ok-push_addressed-in-Word t c =
    let a = c.args.self.now in
    let w = c.args.whole in
    two_added c.push_reads-in-Word.result c.args.out.now.items c.push_addressed.new.out.items c.push_reads-in-Word.new.out.items _ _ (gathered w (tree_of a c.args.e)) c.in_ok-push_addressed-in-Word.ensures c.push_reads-in-Word.ensures
    (gathered_node a c.flat-flat.result.now c.args.e c.node_of.result.now w c.flat-flat.ensures.same c.node_of.ensures.tree (N.Word c.in-Word.signal c.in-Word.index) c.in-Word.is
    ∙ word_gathered w (signal_at (arena_signals a) c.in-Word.signal) (tree_of a c.in-Word.index))

pub returns-in_ok-push_reads-in-WordPart : goal.returns-in_ok-push_reads-in-WordPart
returns-in_ok-push_reads-in-WordPart t c =
    let a = c.args.self.now in
    let w = c.args.whole in
    two_added c.push_reads-in-WordPart-2.result c.args.out.now.items c.push_word_part.new.out.items c.push_reads-in-WordPart-2.new.out.items _ _ (gathered w (tree_of a c.args.e)) c.in_ok-push_word_part-in-WordPart.ensures
    (two_added c.push_reads-in-WordPart-2.result c.push_word_part.new.out.items c.push_reads-in-WordPart.new.out.items c.push_reads-in-WordPart-2.new.out.items (gathered w (tree_of a c.in-WordPart.address)) (gathered w (tree_of a c.in-WordPart.base))
    (gathered w (tree_of a c.in-WordPart.address) ++ gathered w (tree_of a c.in-WordPart.base)) c.in_ok-push_reads-in-WordPart.ensures c.push_reads-in-WordPart-2.ensures refl)
    (gathered_node a c.flat-flat.result.now c.args.e c.node_of.result.now w c.flat-flat.ensures.same c.node_of.ensures.tree (N.WordPart c.in-WordPart.signal c.in-WordPart.address c.in-WordPart.range c.in-WordPart.base c.in-WordPart.up c.in-WordPart.width) c.in-WordPart.is
    ∙ word_part_gathered w (signal_at (arena_signals a) c.in-WordPart.signal) (tree_of a c.in-WordPart.address) (record { range = c.in-WordPart.range; up = c.in-WordPart.up; width = c.in-WordPart.width }) (tree_of a c.in-WordPart.base))

pub returns-in_ok-push_reads-in-Binary : goal.returns-in_ok-push_reads-in-Binary
returns-in_ok-push_reads-in-Binary t c =
    let a = c.args.self.now in
    let w = c.args.whole in
    two_added c.push_reads-in-Binary-2.result c.args.out.now.items c.push_reads-in-Binary.new.out.items c.push_reads-in-Binary-2.new.out.items _ _ (gathered w (tree_of a c.args.e)) c.in_ok-push_reads-in-Binary.ensures
    c.push_reads-in-Binary-2.ensures
    (gathered_node a c.flat-flat.result.now c.args.e c.node_of.result.now w c.flat-flat.ensures.same c.node_of.ensures.tree (N.Binary c.in-Binary.op c.in-Binary.a c.in-Binary.b) c.in-Binary.is
    ∙ binary_gathered w c.in-Binary.op (tree_of a c.in-Binary.a) (tree_of a c.in-Binary.b))

pub returns-in_ok-push_reads-in-Choice-2 : goal.returns-in_ok-push_reads-in-Choice-2
returns-in_ok-push_reads-in-Choice-2 t c =
    let a = c.args.self.now in
    let w = c.args.whole in
    two_added c.push_reads-in-Choice-3.result c.args.out.now.items c.push_reads-in-Choice.new.out.items c.push_reads-in-Choice-3.new.out.items _ _ (gathered w (tree_of a c.args.e)) c.in_ok-push_reads-in-Choice.ensures
    (two_added c.push_reads-in-Choice-3.result c.push_reads-in-Choice.new.out.items c.push_reads-in-Choice-2.new.out.items c.push_reads-in-Choice-3.new.out.items (gathered w (tree_of a c.in-Choice.p)) (gathered w (tree_of a c.in-Choice.q))
    (gathered w (tree_of a c.in-Choice.p) ++ gathered w (tree_of a c.in-Choice.q)) c.in_ok-push_reads-in-Choice-2.ensures c.push_reads-in-Choice-3.ensures refl)
    (gathered_node a c.flat-flat.result.now c.args.e c.node_of.result.now w c.flat-flat.ensures.same c.node_of.ensures.tree (N.Choice c.in-Choice.c c.in-Choice.p c.in-Choice.q) c.in-Choice.is
    ∙ choice_gathered w (tree_of a c.in-Choice.c) (tree_of a c.in-Choice.p) (tree_of a c.in-Choice.q))

pub push_reads-requires-in-loop-argument : goal.push_reads-requires-in-loop-argument
push_reads-requires-in-loop-argument t c = (
  first_of (search rules, grind (arith, common_steps)),
  (
    first_of (search rules, grind (arith, common_steps)),
    argument_fits c.args.self.now c.flat-flat.result.now c.args.e c.loop-argument.argument-index _ c.node_of.result.now c.in-Call.arguments c.as_slice-argument-items.result.now c.flat-flat.ensures.same c.node_of.ensures.tree c.in-Call.is
        c.as_slice-argument-items.ensures c.requires.fits c.loop-argument-test.true,
  ),
)

pub loop-argument-preserved : goal.loop-argument-preserved
loop-argument-preserved t c =
    with_argument c.args.whole (tree_of c.args.self.now) c.as_slice-argument-items.result.now c.loop-argument.argument-index c.loop-argument.out.items c.push_reads-in-loop-argument.new.out.items _ c.loop-argument-test.true c.loop-argument.invariant
    c.in_ok-push_reads-in-Call.ensures
