use Rattle.std.proofs.Common.{◌+◌, ◌≤◌, length, sym, ap, ◌∙◌, arith}
use Rattle.vs_design.specs.Expressions as E
use Rattle.vs_sets.specs.Nodes.{signal_of, tree_of}
use Rattle.vs_sets.specs.Tables.{family_of}
use Rattle.vs_shape.specs.declared.shape.Shape.{Shape}
use Rattle.vs_sets.proofs.PartWrites.{part_anywhere}
use Rattle.vs_sets.proofs.TargetFacts.{word_part_ends_at}
use Rattle.vs_sets.proofs.targets.write_word_part.Goals as goal

pub write_part_at-requires-clause-constant : goal.write_part_at-requires-clause-constant
write_part_at-requires-clause-constant c = sym (ap (λ (s : Shape). s.constant) c.shape-at.ensures) ∙ c.if-at.true

pub widen_run-requires : goal.widen_run-requires
widen_run-requires c =
    let s = signal_of c.args.shapes.now c.args.signal in
    let address = tree_of c.args.shapes.now c.args.address in
    let index = tree_of c.args.shapes.now c.args.index in
    let most : s.first + E.signal_length s ≤ length c.args.table.now = word_part_ends_at (length c.args.table.now) s address c.args.part index c.requires.within in
    omega (arith, most, c.span_of-span.ensures.first, c.span_of-span.ensures.len)

pub returns-else-at : goal.returns-else-at
returns-else-at c =
    let s = signal_of c.args.shapes.now c.args.signal in
    let address = tree_of c.args.shapes.now c.args.address in
    let index = tree_of c.args.shapes.now c.args.index in
    part_anywhere s address c.args.part index c.args.sets.now (family_of c.args.table.now) c.span_of-span.result.first c.span_of-span.result.len c.shape-at.result.constant c.all_of.result (family_of c.widen_run.new.table)
    c.span_of-span.ensures.first c.span_of-span.ensures.len c.if-at.false (ap (λ (s : Shape). s.constant) c.shape-at.ensures) c.all_of.ensures c.widen_run.ensures
