use Rattle.std.proofs.Common.{◌+◌, ◌-◌, ◌++◌, ap, ◌∙◌}
use Rattle.vs_design.specs.Values.{count_from}
use Rattle.vs_shape.proofs.Runs.{one_more_of_run}
use Rattle.vs_shape.proofs.bits.push_run.Goals as goal

pub loop-bit-preserved : goal.loop-bit-preserved
loop-bit-preserved c =
    let end = c.args.first + c.args.count in
    ap (λ xs. xs ++ count_from (c.loop-bit.bit + 1) (end - (c.loop-bit.bit + 1))) c.in_ok-push.ensures.items
    ∙ one_more_of_run c.loop-bit.out.items _ c.loop-bit.bit end c.loop-bit-test.true c.loop-bit.invariant
