use Rattle.std.proofs.Common.{◌≡◌, drop, map}
use Rattle.vs_design.specs.Initials.{initial_writes}
use Rattle.vs_flat.specs.DesignOf.{design_of}
use Rattle.vs_events.specs.Beginning.{after_drives}
use Rattle.vs_queue.specs.Initially.{parts_of}
use Rattle.vs_queue.proofs.machine.Machine.drive_firsts.Given as goal

abbrev pub invariant-loop-k : goal.invariant-loop-k
invariant-loop-k l =
    (l.events.assigns ≡ l.initial.events.assigns) × (after_drives l.events (parts_of l.owners (map initial_writes (drop l.k (design_of l.self.typed.now).initials))) ≡ after_drives l.initial.events (parts_of l.owners (map initial_writes (design_of l.self.typed.now).initials)))
