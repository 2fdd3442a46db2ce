use Rattle.std.proofs.Common.{◌≡◌, ℕ, ◌<◌, List, true, false, map, length, Some, refl, sym, ap, ◌∙◌, subst}
use Rattle.std.specs.Prelude.{slice_get}
use Rattle.std.specs.List.{list_any, list_all}
use Rattle.vs_flat.specs.declared.processes.Event.{Event}
use Rattle.vs_flat.specs.Trees.{signal_at}
use Rattle.vs_flat.specs.DesignOf.{arena_signals, event_of}
use Rattle.vs_flat.specs.Events.{is_edge_event}
use Rattle.vs_clock.specs.Dead.{is_labelled_edge}
use Rattle.vs_clock.proofs.Ruled.{events_below}
use Rattle.vs_clock.proofs.Marking.{assign_unlabelled, block_labelled}
use Rattle.vs_clock.proofs.dead.is_labelled_block.Goals as goal

pub returns-in-Assign : goal.returns-in-Assign
returns-in-Assign c = assign_unlabelled c.trees_law.ensures.processes c.args.flat.now c.args.p c.process.result.now c.process.ensures c.args.labels.now _ _ _ c.in-Assign.is

pub returns-then-not-has_edge : goal.returns-then-not-has_edge
returns-then-not-has_edge c =
    let events = map (event_of (signal_at (arena_signals c.args.flat.now))) c.in-Block.events in
    block_labelled c.trees_law.ensures.processes c.args.flat.now c.args.p c.process.result.now c.process.ensures c.args.labels.now c.in-Block.star c.in-Block.events c.in-Block.statement c.in-Block.is false (list_all (is_labelled_edge c.args.labels.now) events)
    (sym (sym (ap (list_any is_edge_event) c.as_slice.ensures) ∙ sym c.has_edge.ensures ∙ c.if-not-has_edge.true)) refl

pub are_labelled_edges-requires : goal.are_labelled_edges-requires
are_labelled_edges-requires c = subst (λ (es : List Event). (k : ℕ) (e : Event) → slice_get es k ≡ Some e → e.signal < length c.args.flat.now.signals) (sym c.as_slice-in-Block.ensures) (events_below c.names_law.ensures.processes c.args.flat.now c.requires.lawful.names c.args.p c.process.result.now c.in-Block.star c.in-Block.events c.in-Block.statement c.process.ensures c.in-Block.is)

pub returns-else-not-has_edge : goal.returns-else-not-has_edge
returns-else-not-has_edge c =
    block_labelled c.trees_law.ensures.processes c.args.flat.now c.args.p c.process.result.now c.process.ensures c.args.labels.now c.in-Block.star c.in-Block.events c.in-Block.statement c.in-Block.is true c.are_labelled_edges.result
    (sym (sym (ap (list_any is_edge_event) c.as_slice.ensures) ∙ sym c.has_edge.ensures ∙ c.if-not-has_edge.false))
    (c.are_labelled_edges.ensures ∙ ap (λ (es : List Event). list_all (is_labelled_edge c.args.labels.now) (map (event_of (signal_at (arena_signals c.args.flat.now))) es)) c.as_slice-in-Block.ensures)
