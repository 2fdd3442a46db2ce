use Rattle.std.proofs.Common.{take}
use Rattle.vs_net.specs.LevelRun.{each_in}
use Rattle.vs_design.specs.Networks.{network_of}
use Rattle.vs_flat.specs.DesignOf.{design_of}
use Rattle.vs_queue.specs.Sweeps.{HasTaken, settle_turn}
use Rattle.vs_queue.proofs.machine.Machine.pass.Given as goal

abbrev pub invariant-loop-k : goal.invariant-loop-k
invariant-loop-k l =
    let d = design_of l.self.typed.now in
    let clocks = l.self.clocks.now.bits in
    let n = network_of d clocks in
    HasTaken d clocks (λ q. each_in (settle_turn n) n q (take l.k l.order)) l.initial.events l.events l.shadow
