use Rattle.std.proofs.Common.{length, sym, ap, ◌∙◌, arith}
use Rattle.vs_four.specs.Selects.{places}
use Rattle.vs_design.specs.Expressions.{sign}
use Rattle.vs_flat.specs.Targets.{source_of}
use Rattle.vs_sets.specs.Nodes.{tree_of}
use Rattle.vs_sets.specs.Tables.{family_of}
use Rattle.vs_shape.specs.declared.shape.Shape.{Shape}
use Rattle.vs_sets.proofs.TargetFacts.{part_ends, part_facts, part_put, part_signal, part_widened}
use Rattle.vs_sets.proofs.targets.write_part.Goals as goal

pub put_places-requires-clause-inside : goal.put_places-requires-clause-inside
put_places-requires-clause-inside c k n h =
    let src = source_of (tree_of c.args.shapes.now c.args.of) in
    let index = tree_of c.args.shapes.now c.args.index in
    let named = part_signal src c.args.part index c.requires.target in
    let below = c.places_of-places.ensures.inside k n h in
    let facts = part_facts src named.0 c.args.part index c.requires.target named.1 in
    let ends = part_ends (length c.args.table.now) src named.0 c.args.part index named.1 c.requires.within in
    let first = c.named_span-span.ensures.first named.0 named.1 in
    omega (arith, below, facts.range, ends, first)

pub put_places-requires-clause-same_length : goal.put_places-requires-clause-same_length
put_places-requires-clause-same_length c = c.requires.many ∙ sym c.places_of-places.ensures.length

pub widen_run-requires : goal.widen_run-requires
widen_run-requires c =
    let src = source_of (tree_of c.args.shapes.now c.args.of) in
    let index = tree_of c.args.shapes.now c.args.index in
    let named = part_signal src c.args.part index c.requires.target in
    let ends = part_ends (length c.args.table.now) src named.0 c.args.part index named.1 c.requires.within in
    let first = c.named_span-span.ensures.first named.0 named.1 in
    let len = c.named_span-span.ensures.len named.0 named.1 in
    omega (arith, ends, first, len)

pub returns-then-shape : goal.returns-then-shape
returns-then-shape c =
    let src = source_of (tree_of c.args.shapes.now c.args.of) in
    let index = tree_of c.args.shapes.now c.args.index in
    let named = part_signal src c.args.part index c.requires.target in
    part_put src named.0 c.args.part index c.named_span-span.result.first c.places_of-places.result c.shape-shape.result.constant c.args.sets.now (family_of c.args.table.now) (family_of c.put_places.new.table) named.1
    (c.named_span-span.ensures.first named.0 named.1) c.if-shape.true (ap (λ (s : Shape). s.constant) c.shape-shape.ensures)
    (c.places_of-places.ensures.value ∙ ap (λ (s : Shape). places c.args.part s.signed c.constant_value.result) c.shape-shape.ensures ∙ ap (places c.args.part (sign index)) c.constant_value.ensures.value) c.put_places.ensures

pub returns-else-shape : goal.returns-else-shape
returns-else-shape c =
    let src = source_of (tree_of c.args.shapes.now c.args.of) in
    let index = tree_of c.args.shapes.now c.args.index in
    let named = part_signal src c.args.part index c.requires.target in
    part_widened src named.0 c.args.part index c.named_span-span.result.first c.named_span-span.result.len c.shape-shape.result.constant c.all_of.result c.args.sets.now (family_of c.args.table.now) (family_of c.widen_run.new.table) named.1
    (c.named_span-span.ensures.first named.0 named.1) (c.named_span-span.ensures.len named.0 named.1) c.if-shape.false (ap (λ (s : Shape). s.constant) c.shape-shape.ensures) c.all_of.ensures c.widen_run.ensures
