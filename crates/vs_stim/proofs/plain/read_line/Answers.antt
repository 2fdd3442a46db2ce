use Rattle.std.proofs.Common.{rules, sym, ◌∙◌}
use Rattle.vs_stim.proofs.LineRead.{both_line}
use Rattle.vs_stim.proofs.plain.read_line.Goals as goal

pub returns-clause-line : goal.returns-clause-line
returns-clause-line c =
    both_line c.args.columns.now c.args.expected.now c.in_ok-at.at c.in_ok-count.count c.args.bytes.now c.args.values.now c.read_inputs.new.values c.args.wanted.now c.read_expected_line.new.values
    (sym c.is_empty.ensures ∙ c.if-is_empty.false) c.in_ok-at.ensures.reads (c.is_arrow.ensures (search rules)) c.in_ok-count.ensures.ends
