use Rattle.std.proofs.Common.{◌≡◌, ◌<◌, ◌*◌, ◌%◌, ◌^◌}
use Rattle.vs_four.proofs.numbers.wrapping_power.Given as goal

abbrev pub invariant-loop-left : goal.invariant-loop-left
invariant-loop-left l = record { small : l.power < 2 ^ 64; product : l.power * l.square ^ l.left % 2 ^ 64 ≡ l.fn.base ^ l.fn.exponent % 2 ^ 64 }

abbrev pub decreases-loop-left : goal.decreases-loop-left
decreases-loop-left l = l.left
