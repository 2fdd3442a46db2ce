use Rattle.std.proofs.Common.{◌≡◌, ℕ, ◌<◌, List, true, false, is_some, map, length, Some, sym, ap, ◌∙◌, subst}
use Rattle.std.specs.Prelude.{slice_get}
use Rattle.std.specs.List.{list_any}
use Rattle.vs_design.specs.Clocks.{clock_nets, root_of, events_of}
use Rattle.vs_flat.specs.declared.processes.Event.{Event}
use Rattle.vs_flat.specs.Trees.{signal_at}
use Rattle.vs_flat.specs.DesignOf.{arena_signals, design_of, event_of}
use Rattle.vs_flat.specs.Events.{is_edge_event}
use Rattle.vs_clock.proofs.Ruled.{not_edge, other_by, events_below, seen_none, seen_clock, seen_reset}
use Rattle.vs_clock.proofs.rules.is_other.Goals as goal

pub returns-then-not-has_edge : goal.returns-then-not-has_edge
returns-then-not-has_edge c = λ n a x e.
    not_edge c.trees_law.ensures.processes c.args.flat.now c.args.p c.process.result.now c.in-Block.star c.in-Block.events c.in-Block.statement c.process.ensures c.in-Block.is (clock_nets (design_of c.args.flat.now) n) (root_of (design_of c.args.flat.now) n)
    (sym (ap (list_any is_edge_event) c.as_slice.ensures) ∙ sym c.has_edge.ensures ∙ c.if-not-has_edge.true) x e

pub events_of-requires : goal.events_of-requires
events_of-requires c = subst (λ (es : List Event). (k : ℕ) (e : Event) → slice_get es k ≡ Some e → e.signal < length c.args.flat.now.signals) (sym c.as_slice-in-Block.ensures) (events_below c.names_law.ensures.processes c.args.flat.now c.requires.lawful.names c.args.p c.process.result.now c.in-Block.star c.in-Block.events c.in-Block.statement c.process.ensures c.in-Block.is)

pub returns-in-Other : goal.returns-in-Other
returns-in-Other c = λ n a x e.
    let nets = clock_nets (design_of c.args.flat.now) n in
    let roots = root_of (design_of c.args.flat.now) n in
    other_by c.trees_law.ensures.processes c.args.flat.now c.args.p c.process.result.now c.in-Block.star c.in-Block.events c.in-Block.statement c.process.ensures c.in-Block.is nets roots true false
    (c.if-not-has_edge.ensures ∙ ap (list_any is_edge_event) c.as_slice.ensures)
    (seen_none _ (c.in-Other.ensures.events n a) ∙ ap (λ (es : List Event). is_some (events_of nets roots (map (event_of (signal_at (arena_signals c.args.flat.now))) es))) c.as_slice-in-Block.ensures) x e

pub returns-in-Clock : goal.returns-in-Clock
returns-in-Clock c = λ n a x e.
    let nets = clock_nets (design_of c.args.flat.now) n in
    let roots = root_of (design_of c.args.flat.now) n in
    other_by c.trees_law.ensures.processes c.args.flat.now c.args.p c.process.result.now c.in-Block.star c.in-Block.events c.in-Block.statement c.process.ensures c.in-Block.is nets roots true true
    (c.if-not-has_edge.ensures ∙ ap (list_any is_edge_event) c.as_slice.ensures)
    (seen_clock _ (c.in-Clock.ensures.events n a) ∙ ap (λ (es : List Event). is_some (events_of nets roots (map (event_of (signal_at (arena_signals c.args.flat.now))) es))) c.as_slice-in-Block.ensures) x e

pub returns-in-Reset : goal.returns-in-Reset
returns-in-Reset c = λ n a x e.
    let nets = clock_nets (design_of c.args.flat.now) n in
    let roots = root_of (design_of c.args.flat.now) n in
    other_by c.trees_law.ensures.processes c.args.flat.now c.args.p c.process.result.now c.in-Block.star c.in-Block.events c.in-Block.statement c.process.ensures c.in-Block.is nets roots true true
    (c.if-not-has_edge.ensures ∙ ap (list_any is_edge_event) c.as_slice.ensures)
    (seen_reset _ _ (c.in-Reset.ensures.events n a) ∙ ap (λ (es : List Event). is_some (events_of nets roots (map (event_of (signal_at (arena_signals c.args.flat.now))) es))) c.as_slice-in-Block.ensures) x e
