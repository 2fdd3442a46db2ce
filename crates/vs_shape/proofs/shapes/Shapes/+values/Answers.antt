use Rattle.std.proofs.Common.{◌<◌, ap, ◌∙◌, arith, rules, get_or}
use Rattle.vs_flat.specs.Arena.{Arena}
use Rattle.vs_flat.specs.Targets.{source_of}
use Rattle.vs_flat.specs.declared.expressions.Node.TheVariants as N
use Rattle.vs_shape.specs.Nodes.{tree_of}
use Rattle.vs_shape.specs.declared.shape.Shape.{Shape}
use Rattle.vs_shape.proofs.PartValues.{part_valued, room_for_part, all_parts, length_all_parts}
use Rattle.vs_shape.proofs.Selected.{value_of_select, value_of_node}
use Rattle.vs_shape.proofs.shapes.Shapes.+values.Goals as goal

pub joined_value-constant_value-requires : goal.joined_value-constant_value-requires
joined_value-constant_value-requires t c =
    let below : get_or c.args.parts.now c.loop-n.n 0 < c.args.e = c.requires.below c.loop-n.n c.loop-n-test.true in
    (first_of (omega arith, search rules), (omega arith, part_valued (tree_of c.args.self.now) c.args.parts.now c.loop-n.n c.requires.valued c.loop-n-test.true))

pub joined_value-join-whole-requires : goal.joined_value-join-whole-requires
joined_value-join-whole-requires t c = record {
  at_most_64 =
      room_for_part (tree_of c.args.self.now) c.args.parts.now c.loop-n.n c.loop-n.whole c.constant_value.result c.loop-n-test.true c.loop-n.invariant c.constant_value.ensures.value c.requires.most;
}

pub joined_value-returns-clause-value : goal.joined_value-returns-clause-value
joined_value-returns-clause-value t c = all_parts (tree_of c.args.self.now) c.args.parts.now c.loop-n.n c.loop-n.whole c.requires.some c.loop-n-test.false c.loop-n.invariant

pub joined_value-returns-clause-length : goal.joined_value-returns-clause-length
joined_value-returns-clause-length t c =
    length_all_parts (tree_of c.args.self.now) c.args.parts.now c.loop-n.whole (all_parts (tree_of c.args.self.now) c.args.parts.now c.loop-n.n c.loop-n.whole c.requires.some c.loop-n-test.false c.loop-n.invariant)

pub select_value-returns-clause-value : goal.select_value-returns-clause-value
select_value-returns-clause-value t c =
    value_of_select (source_of (tree_of c.args.self.now c.args.of)) (record { range = c.args.range; up = c.args.up; width = c.args.width }) (tree_of c.args.self.now c.args.index) c.args.w c.args.signed
    c.shape-index_signed.result.signed c.parameter_bits-bits.result c.constant_value.result c.selected-taken.result c.extended.result c.requires.valued
    (λ bs h k. c.parameter_bits-bits.ensures bs (ap (λ (a : Arena). source_of (tree_of a c.args.of)) c.flat.ensures.same ∙ h) k) c.constant_value.ensures.value (ap (λ (s : Shape). s.signed) c.shape-index_signed.ensures)
    c.selected-taken.ensures.value c.extended.ensures.value

pub value-returns-in-Part-clause-value : goal.value-returns-in-Part-clause-value
value-returns-in-Part-clause-value t c =
    value_of_node c.args.self.now c.flat-flat.result.now c.args.e c.args.w c.args.signed c.node_of.result.now (N.Part c.in-Part.of c.in-Part.range c.in-Part.base c.in-Part.up c.in-Part.width) c.select_value-in-Part.result
    c.flat-flat.ensures.same c.node_of.ensures.tree c.in-Part.is c.select_value-in-Part.ensures.value
