use Rattle.std.proofs.Common.{take, ◌∙◌, ap, arith}
use Rattle.std.specs.Prelude.{slice_set}
use Rattle.vs_vcd.proofs.LineLemmas.{line_of_one}
use Rattle.vs_vcd.proofs.values.put_bit.Goals as goal

pub returns-clause-text : goal.returns-clause-text
returns-clause-text c = λ number ends.
    ap (λ d. take c.put_tail-end.result (slice_set c.put_tail-end.new.block c.args.at d)) c.digit.ensures
    ∙ line_of_one c.args.at c.put_tail-end.result number c.args.bit c.args.block.now c.put_tail-end.new.block c.args.tail.now (omega arith) ends c.put_tail-end.ensures.text
