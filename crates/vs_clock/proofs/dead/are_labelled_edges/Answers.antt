use Rattle.std.proofs.Common.{sym, ◌∙◌}
use Rattle.vs_flat.specs.Trees.{signal_at}
use Rattle.vs_flat.specs.DesignOf.{arena_signals, event_of}
use Rattle.vs_clock.specs.Dead.{is_labelled_edge}
use Rattle.std.proofs.lemmas.Option.{slice_get-get_or}
use Rattle.vs_clock.proofs.Marking.{edges_more, edge_other, edges_all}
use Rattle.vs_clock.proofs.dead.are_labelled_edges.Goals as goal

pub is_labelled_edge-requires : goal.is_labelled_edge-requires
is_labelled_edge-requires c = c.requires c.loop-event.event-index _ (slice_get-get_or c.args.events.now c.loop-event.event-index _ c.loop-event-test.true)

pub returns-then-not-is_labelled_edge : goal.returns-then-not-is_labelled_edge
returns-then-not-is_labelled_edge c =
    edge_other (event_of (signal_at (arena_signals c.args.flat.now))) (is_labelled_edge c.args.labels.now) c.args.events.now c.loop-event.event-index _ (slice_get-get_or c.args.events.now c.loop-event.event-index _ c.loop-event-test.true) (sym c.is_labelled_edge.ensures ∙ c.if-not-is_labelled_edge.true)

pub loop-event-preserved : goal.loop-event-preserved
loop-event-preserved c =
    edges_more (event_of (signal_at (arena_signals c.args.flat.now))) (is_labelled_edge c.args.labels.now) c.args.events.now c.loop-event.event-index _ (slice_get-get_or c.args.events.now c.loop-event.event-index _ c.loop-event-test.true) (sym c.is_labelled_edge.ensures ∙ c.if-not-is_labelled_edge.false) c.loop-event.invariant

pub returns : goal.returns
returns c = edges_all (event_of (signal_at (arena_signals c.args.flat.now))) (is_labelled_edge c.args.labels.now) c.args.events.now c.loop-event.event-index c.loop-event-test.false c.loop-event.invariant
