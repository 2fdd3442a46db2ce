use Rattle.std.proofs.Common.{ℕ, List}
use Rattle.vs_design.specs.Clocks.{has_other_clock, clock_nets, root_of}
use Rattle.vs_flat.specs.DesignOf.{design_of}
use Rattle.vs_clock.specs.Nets.{AreNets}
use Rattle.vs_clock.specs.Tests.{NoneBefore}
use Rattle.vs_clock.proofs.first.first_other.Given as goal

abbrev pub invariant-loop-p : goal.invariant-loop-p
invariant-loop-p l = (c : List ℕ) → AreNets (design_of l.flat) c l.nets → NoneBefore (design_of l.flat) (has_other_clock (clock_nets (design_of l.flat) c) (root_of (design_of l.flat) c)) l.p
