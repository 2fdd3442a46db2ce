use Rattle.std.proofs.Common.{length, sym, ap, ◌∙◌}
use Rattle.vs_design.specs.Designs.{top_inputs}
use Rattle.vs_flat.specs.DesignOf.{design_of}
use Rattle.vs_events.specs.Held.{Events}
use Rattle.vs_events.specs.Beginning.{after_drives}
use Rattle.vs_queue.specs.Driven.{drives_from, spare_drives}
use Rattle.vs_queue.proofs.Executed.{on_ok}
use Rattle.vs_queue.proofs.Inputs.{both_drives}
use Rattle.vs_queue.proofs.machine.Machine.drive.Goals as goal

pub drive_spare-requires-clause-held : goal.drive_spare-requires-clause-held
drive_spare-requires-clause-held c = c.in_ok-drive_inputs.ensures.held ∙ c.requires.running.sound.count

pub returns : goal.returns
returns c = λ slot is.
    let d = design_of c.args.self.now.typed.now in
    let clocks = c.args.self.now.clocks.now.bits in
    on_ok c.drive_spare.result (c.drive_spare.ensures slot is) (λ h.
    h ∙ ap (λ (e : Events). after_drives e (spare_drives d clocks slot)) (c.in_ok-drive_inputs.ensures.driven slot is) ∙ sym (both_drives (drives_from clocks slot (length d.processes) (top_inputs d)) (spare_drives d clocks slot) c.args.events.now))
