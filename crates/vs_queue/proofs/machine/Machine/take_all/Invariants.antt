use Rattle.vs_net.specs.LevelRun.{below, each_in}
use Rattle.vs_design.specs.Networks.{network_of}
use Rattle.vs_flat.specs.DesignOf.{design_of}
use Rattle.vs_queue.specs.Sweeps.{HasTaken, take_turn}
use Rattle.vs_queue.proofs.machine.Machine.take_all.Given as goal

abbrev pub invariant-loop-p : goal.invariant-loop-p
invariant-loop-p l =
    let d = design_of l.self.typed.now in
    let clocks = l.self.clocks.now.bits in
    let n = network_of d clocks in
    HasTaken d clocks (λ q. each_in (take_turn) n q (below l.p)) l.initial.events l.events l.shadow
