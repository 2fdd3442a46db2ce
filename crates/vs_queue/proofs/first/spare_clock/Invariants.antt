use Rattle.std.proofs.Common.{◌≡◌, [], take}
use Rattle.vs_design.specs.Networks.{spare_clocks}
use Rattle.vs_flat.specs.DesignOf.{design_of}
use Rattle.vs_queue.proofs.first.spare_clock.Given as goal

-- none of those that were seen is spare
abbrev pub invariant-loop-clock : goal.invariant-loop-clock
invariant-loop-clock l = spare_clocks (design_of l.flat) (take l.clock-index l.clocks) ≡ []
