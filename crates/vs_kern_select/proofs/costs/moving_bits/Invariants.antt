use Rattle.std.proofs.Common.{◌≡◌, ◌^◌, ◌≤◌}
use Rattle.vs_four.specs.Numbers.{log_up}
use Rattle.vs_kern_select.proofs.costs.moving_bits.Given as goal

-- so far each place stands for less than the width
abbrev pub invariant-loop-bits : goal.invariant-loop-bits
invariant-loop-bits l = record {
  power : l.distance ≡ 2 ^ l.bits;
  below : l.bits ≤ log_up l.width l.width;
}
