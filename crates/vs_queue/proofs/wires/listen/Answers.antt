use Rattle.std.proofs.Common.{◌≡◌, ◌<◌, ℕ, List, map, length, sym, ap, ◌∙◌, subst, arith, Some}
use Rattle.std.specs.Prelude.{slice_get}
use Rattle.std.specs.List.{list_any}
use Rattle.vs_flat.specs.Events.{is_edge_event}
use Rattle.vs_flat.specs.declared.processes.Event.{Event}
use Rattle.vs_flat.specs.Arena.{Arena}
use Rattle.vs_flat.specs.DesignOf.{design_of}
use Rattle.vs_queue.specs.Listens.{to_bit}
use Rattle.vs_queue.proofs.Listening.{assign_listens, events_listen, waits_listen, listens_there, on_told, same_events, events_below}
use Rattle.vs_queue.proofs.wires.listen.Goals as goal

pub process-requires : goal.process-requires
process-requires c = subst (λ (z : Arena). c.args.p < length z.processes) (sym c.flat-flat.ensures.same) c.requires.there

pub reads-requires : goal.reads-requires
reads-requires c =
    let l = c.requires.there in
    let f = ap length c.requires.footprints in
    let g = c.footprint_law.ensures.counts (design_of c.args.typed.now) in
    let k = (c.trees_law.ensures.counts c.args.typed.now).processes in
    omega (arith, l, f, g, k)

pub waits-requires : goal.waits-requires
waits-requires c =
    let l = c.requires.there in
    let f = ap length c.requires.footprints in
    let g = c.footprint_law.ensures.counts (design_of c.args.typed.now) in
    let k = (c.trees_law.ensures.counts c.args.typed.now).processes in
    omega (arith, l, f, g, k)

pub listen_to_bits-requires : goal.listen_to_bits-requires
listen_to_bits-requires c =
    let at = subst (λ (z : Arena). slice_get z.processes c.args.p ≡ Some c.process.result.now) c.flat-flat.ensures.same c.process.ensures in
    listens_there c.trees_law.ensures.processes c.footprint_law.ensures.lists c.args.typed.now c.args.p c.process.result.now at c.args.wiring.now c.requires.bits (map (to_bit c.args.p) c.reads.result.now)
    (λ x h. ap (map (to_bit c.args.p)) c.reads.ensures ∙ assign_listens c.trees_law.ensures.processes c.footprint_law.ensures.lists c.args.typed.now c.args.p c.process.result.now at c.args.footprints.now c.requires.footprints c.in-Assign.target c.in-Assign.expr c.in-Assign.port c.in-Assign.is x h)

pub returns-in-Assign : goal.returns-in-Assign
returns-in-Assign c = λ x h.
    let at = subst (λ (z : Arena). slice_get z.processes c.args.p ≡ Some c.process.result.now) c.flat-flat.ensures.same c.process.ensures in
    on_told c.listen_to_bits.result c.listen_to_bits.new.wiring c.args.wiring.now _ _ c.listen_to_bits.ensures
    (ap (map (to_bit c.args.p)) c.reads.ensures ∙ assign_listens c.trees_law.ensures.processes c.footprint_law.ensures.lists c.args.typed.now c.args.p c.process.result.now at c.args.footprints.now c.requires.footprints c.in-Assign.target c.in-Assign.expr c.in-Assign.port c.in-Assign.is x h)

pub listen_to_events-requires-clause-signals : goal.listen_to_events-requires-clause-signals
listen_to_events-requires-clause-signals c =
    let at = subst (λ (z : Arena). slice_get z.processes c.args.p ≡ Some c.process.result.now) c.flat-flat.ensures.same c.process.ensures in
    subst (λ (es : List Event). (k : ℕ) (e : Event) → slice_get es k ≡ Some e → e.signal < length c.flat-flat.result.now.signals) (sym c.as_slice-then-has_edge.ensures)
    (subst (λ (z : Arena). (k : ℕ) (e : Event) → slice_get c.in-Block.events k ≡ Some e → e.signal < length z.signals) (sym c.flat-flat.ensures.same)
    (events_below c.names_law.ensures.processes c.args.typed.now c.flat-flat.ensures.lawful.names c.args.p c.process.result.now c.in-Block.star c.in-Block.events c.in-Block.statement at c.in-Block.is))

pub listen_to_events-requires-clause-there : goal.listen_to_events-requires-clause-there
listen_to_events-requires-clause-there c =
    let at = subst (λ (z : Arena). slice_get z.processes c.args.p ≡ Some c.process.result.now) c.flat-flat.ensures.same c.process.ensures in
    listens_there c.trees_law.ensures.processes c.footprint_law.ensures.lists c.args.typed.now c.args.p c.process.result.now at c.args.wiring.now c.requires.bits _
    (λ x h. same_events c.flat-flat.result.now c.args.typed.now c.flat-flat.ensures.same c.args.p c.as_slice-then-has_edge.result.now c.in-Block.events c.as_slice-then-has_edge.ensures
    ∙ events_listen c.trees_law.ensures.processes c.footprint_law.ensures.lists c.args.typed.now c.args.p c.process.result.now at c.in-Block.star c.in-Block.events c.in-Block.statement c.in-Block.is x h (ap (list_any is_edge_event) (sym c.as_slice.ensures) ∙ sym c.has_edge.ensures ∙ c.if-has_edge.true))

pub returns-then-has_edge : goal.returns-then-has_edge
returns-then-has_edge c = λ x h.
    let at = subst (λ (z : Arena). slice_get z.processes c.args.p ≡ Some c.process.result.now) c.flat-flat.ensures.same c.process.ensures in
    on_told c.listen_to_events.result c.listen_to_events.new.wiring c.args.wiring.now _ _ c.listen_to_events.ensures
    (same_events c.flat-flat.result.now c.args.typed.now c.flat-flat.ensures.same c.args.p c.as_slice-then-has_edge.result.now c.in-Block.events c.as_slice-then-has_edge.ensures
    ∙ events_listen c.trees_law.ensures.processes c.footprint_law.ensures.lists c.args.typed.now c.args.p c.process.result.now at c.in-Block.star c.in-Block.events c.in-Block.statement c.in-Block.is x h (ap (list_any is_edge_event) (sym c.as_slice.ensures) ∙ sym c.has_edge.ensures ∙ c.if-has_edge.true))

pub listen_to_bits-requires-else-has_edge : goal.listen_to_bits-requires-else-has_edge
listen_to_bits-requires-else-has_edge c =
    let at = subst (λ (z : Arena). slice_get z.processes c.args.p ≡ Some c.process.result.now) c.flat-flat.ensures.same c.process.ensures in
    listens_there c.trees_law.ensures.processes c.footprint_law.ensures.lists c.args.typed.now c.args.p c.process.result.now at c.args.wiring.now c.requires.bits (map (to_bit c.args.p) c.waits.result.now)
    (λ x h. ap (map (to_bit c.args.p)) c.waits.ensures ∙ waits_listen c.trees_law.ensures.processes c.footprint_law.ensures.lists c.args.typed.now c.args.p c.process.result.now at c.args.footprints.now c.requires.footprints c.in-Block.star c.in-Block.events c.in-Block.statement c.in-Block.is x h (ap (list_any is_edge_event) (sym c.as_slice.ensures) ∙ sym c.has_edge.ensures ∙ c.if-has_edge.false))

pub returns-else-has_edge : goal.returns-else-has_edge
returns-else-has_edge c = λ x h.
    let at = subst (λ (z : Arena). slice_get z.processes c.args.p ≡ Some c.process.result.now) c.flat-flat.ensures.same c.process.ensures in
    on_told c.listen_to_bits-else-has_edge.result c.listen_to_bits-else-has_edge.new.wiring c.args.wiring.now _ _ c.listen_to_bits-else-has_edge.ensures
    (ap (map (to_bit c.args.p)) c.waits.ensures ∙ waits_listen c.trees_law.ensures.processes c.footprint_law.ensures.lists c.args.typed.now c.args.p c.process.result.now at c.args.footprints.now c.requires.footprints c.in-Block.star c.in-Block.events c.in-Block.statement c.in-Block.is x h (ap (list_any is_edge_event) (sym c.as_slice.ensures) ∙ sym c.has_edge.ensures ∙ c.if-has_edge.false))
