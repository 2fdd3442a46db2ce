use Rattle.std.proofs.Common.{List, ◌≡◌, ℕ}
use Rattle.vs_design.specs.Designs.{Design}
use Rattle.vs_design.specs.Footprints.{ascending}
use Rattle.vs_design.specs.Clocks.{clock_nets}
use Rattle.vs_clock.specs.Nets.{AreNets}
use Rattle.vs_compile.proofs.nets.net_bits.Given as goal

-- those of the first bits
abbrev pub invariant-loop-bit : goal.invariant-loop-bit
invariant-loop-bit l = (d : Design) (bits : List ℕ) → AreNets d bits l.clocks.nets → l.bits.items ≡ ascending l.bit (clock_nets d bits)
