use Rattle.std.proofs.Common.{length, refl, sym, ap, ◌∙◌, subst}
use Rattle.vs_flat.specs.declared.processes.Event.{Event}
use Rattle.vs_flat.specs.DesignOf.{arena_signals, event_of}
use Rattle.vs_flat.specs.Trees.{signal_at}
use Rattle.vs_events.specs.Wired.{after_listens}
use Rattle.vs_queue.specs.There.{AllThere}
use Rattle.vs_queue.specs.Listens.{to_event}
use Rattle.vs_queue.proofs.Listened.{bit_there, told_more, told_all, map_twice, item_at}
use Rattle.vs_queue.proofs.wires.listen_to_events.Goals as goal

pub loop-event-init : goal.loop-event-init
loop-event-init c =
    let signal = signal_at (arena_signals c.args.flat.now) in
    record {
      told = refl;
      there = (c.requires.there.0, subst (AllThere (length c.args.wiring.now) c.requires.there.0) (map_twice (to_event c.args.p) (event_of signal) c.args.events.now) c.requires.there.1);
    }

pub listen_to_event-requires-clause-signal : goal.listen_to_event-requires-clause-signal
listen_to_event-requires-clause-signal c = c.requires.signals c.loop-event.event-index _ (item_at c.args.events.now c.loop-event.event-index _ c.loop-event-test.true)

pub listen_to_event-requires-clause-there : goal.listen_to_event-requires-clause-there
listen_to_event-requires-clause-there c =
    bit_there (λ (x : Event). to_event c.args.p (event_of (signal_at (arena_signals c.args.flat.now)) x)) c.args.events.now c.args.wiring.now c.loop-event.wiring c.loop-event.event-index _ (item_at c.args.events.now c.loop-event.event-index _ c.loop-event-test.true) c.loop-event-test.true c.loop-event.invariant

pub loop-event-preserved : goal.loop-event-preserved
loop-event-preserved c =
    told_more (λ (x : Event). to_event c.args.p (event_of (signal_at (arena_signals c.args.flat.now)) x)) c.args.events.now c.args.wiring.now c.loop-event.wiring c.loop-event.event-index _ (item_at c.args.events.now c.loop-event.event-index _ c.loop-event-test.true) c.loop-event-test.true c.loop-event.invariant c.listen_to_event.new.wiring c.in_ok-listen_to_event.ensures

pub returns : goal.returns
returns c =
    let signal = signal_at (arena_signals c.args.flat.now) in
    told_all (λ (x : Event). to_event c.args.p (event_of signal x)) c.args.events.now c.args.wiring.now c.loop-event.wiring c.loop-event.event-index c.loop-event-test.false c.loop-event.invariant
    ∙ ap (after_listens c.args.wiring.now) (sym (map_twice (to_event c.args.p) (event_of signal) c.args.events.now))
