use Rattle.std.proofs.Common.{sym}
use Rattle.vs_values.proofs.Shifting.{unknown_at}
use Rattle.vs_values.proofs.shifts.known.Goals as goal

pub returns-then-slot-ge2 : goal.returns-then-slot-ge2
returns-then-slot-ge2 c = sym (unknown_at c.args.amount.now c.loop-slot.slot-index 0 c.loop-slot-test.true c.if-slot-ge2.true)
