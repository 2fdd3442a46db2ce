use Rattle.std.proofs.Common.{ℕ, List}
use Rattle.vs_design.specs.Clocks.{reads_clock, clock_nets}
use Rattle.vs_flat.specs.DesignOf.{design_of}
use Rattle.vs_clock.specs.Nets.{AreNets}
use Rattle.vs_clock.specs.Tests.{NoneBefore}
use Rattle.vs_clock.proofs.first.first_reading.Given as goal

abbrev pub invariant-loop-p : goal.invariant-loop-p
invariant-loop-p l = (c : List ℕ) → AreNets (design_of l.flat) c l.nets → NoneBefore (design_of l.flat) (reads_clock (clock_nets (design_of l.flat) c)) l.p
