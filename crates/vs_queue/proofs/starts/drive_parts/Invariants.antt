use Rattle.std.proofs.Common.{◌≡◌, drop}
use Rattle.vs_events.specs.Beginning.{after_drives}
use Rattle.vs_queue.specs.Initially.{parts}
use Rattle.vs_queue.proofs.starts.drive_parts.Given as goal

abbrev pub invariant-loop-n : goal.invariant-loop-n
invariant-loop-n l = (l.events.assigns ≡ l.initial.events.assigns) × (after_drives l.events (parts l.owners l.writes (drop l.n l.writes)) ≡ after_drives l.initial.events (parts l.owners l.writes l.writes))
