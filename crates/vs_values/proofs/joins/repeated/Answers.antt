use Rattle.std.proofs.Common.{◌∙◌, arith}
use Rattle.vs_values.proofs.Periods.{one_more_copy}
use Rattle.vs_values.proofs.joins.repeated.Goals as goal

pub loop-preserved : goal.loop-preserved
loop-preserved c =
    c.loop-k.invariant ∙ one_more_copy c.loop.counter c.loop-k.k c.args.one.items (omega (arith, c.loop-k.auto.k-end, c.loop-k-test.false, c.len-k-end.ensures, c.args.one.ok))
