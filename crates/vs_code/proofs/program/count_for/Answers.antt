use Rattle.std.proofs.Common.{arith}
use Rattle.vs_code.proofs.Counts.{count_for_more, max_is}
use Rattle.vs_code.proofs.program.count_for.Goals as goal

pub loop-slot-preserved : goal.loop-slot-preserved
loop-slot-preserved c =
    let more = count_for_more c.args.slots.now c.loop-slot.slot-index c.loop-slot-test.true in
    record { exact = omega (arith, more, max_is); most = omega (arith, c.type_inv.slots c.loop-slot.slot-index, max_is) }
