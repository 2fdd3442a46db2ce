use Rattle.vs_flat.specs.declared.processes.Event.{Event}
use Rattle.vs_flat.specs.DesignOf.{arena_signals, event_of}
use Rattle.vs_flat.specs.Trees.{signal_at}
use Rattle.vs_queue.specs.Listens.{to_event}
use Rattle.vs_queue.proofs.Listened.{AreTold}
use Rattle.vs_queue.proofs.wires.listen_to_events.Given as goal

abbrev pub invariant-loop-event : goal.invariant-loop-event
invariant-loop-event l = AreTold (λ (e : Event). to_event l.p (event_of (signal_at (arena_signals l.flat)) e)) l.events l.initial.wiring l.wiring l.event-index
