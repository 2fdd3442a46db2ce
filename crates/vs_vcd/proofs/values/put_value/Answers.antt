use Rattle.std.proofs.Common.{take, ◌++◌, ◌∙◌, sym, ap, arith}
use Rattle.vs_vcd.specs.Values.{value_line}
use Rattle.vs_vcd.proofs.LineLemmas.{line_of_more, lone_bit}
use Rattle.vs_vcd.proofs.values.put_value.Goals as goal

pub returns-then-len-eq1-clause-text : goal.returns-then-len-eq1-clause-text
returns-then-len-eq1-clause-text c = λ number ends.
    c.put_bit.ensures.text number ends
    ∙ ap (λ bits. take c.args.at c.args.block.now ++ value_line number bits) (lone_bit c.args.value c.get.result (sym c.len.ensures.length ∙ c.if-len-eq1.true) c.get.ensures)

pub returns-clause-text : goal.returns-clause-text
returns-clause-text c = λ number ends.
    line_of_more c.args.at c.put_shortest-end.result c.put_tail.result number c.args.value c.args.block.now c.put_shortest-end.new.block c.put_tail.new.block c.args.tail.now (omega arith) (omega arith) ends c.put_shortest-end.ensures.text c.put_tail.ensures.text
