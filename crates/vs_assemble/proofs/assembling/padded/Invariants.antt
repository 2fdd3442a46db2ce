use Rattle.std.proofs.Common.{◌≡◌, ◌≤◌, ◌-◌, ◌++◌, length, replicate}
use Rattle.vs_four.specs.declared.Bit4.TheVariants.{Zero}
use Rattle.vs_assemble.proofs.assembling.padded.Given as goal

-- as many zeros as there are more
abbrev pub invariant-loop-bits : goal.invariant-loop-bits
invariant-loop-bits l = record {
  least : length l.initial.bits.items ≤ length l.bits.items;
  most : length l.bits.items ≤ l.count;
  items : l.bits.items ≡ l.initial.bits.items ++ replicate (length l.bits.items - length l.initial.bits.items) Zero;
}

abbrev pub decreases-loop-bits : goal.decreases-loop-bits
decreases-loop-bits l = l.count - length l.bits.items
