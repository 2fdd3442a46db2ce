use Rattle.std.proofs.Common.{◌≡◌, length}
use Rattle.std.specs.Prelude.{option_map}
use Rattle.vs_net.specs.Queue.{Slot}
use Rattle.vs_design.specs.Designs.{top_inputs}
use Rattle.vs_flat.specs.DesignOf.{design_of}
use Rattle.vs_queue.specs.Driven.{IsSlotOf}
use Rattle.vs_queue.specs.Left.{AreSoFar}
use Rattle.vs_queue.proofs.machine.Machine.drive_inputs.Given as goal

abbrev pub invariant-loop-i : goal.invariant-loop-i
invariant-loop-i l =
    let d = design_of l.self.typed.now in
    let clocks = l.self.clocks.now.bits in
    let vector = option_map (λ v. v.now) l.vector in
    record {
      so_far : (slot : Slot) → IsSlotOf d clocks vector slot → AreSoFar clocks vector (top_inputs d) (length d.processes) l.initial.events l.events l.i l.taken slot;
      held : length l.events.assigns ≡ length l.initial.events.assigns;
    }
