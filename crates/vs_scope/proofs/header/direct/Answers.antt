use Rattle.std.proofs.Common.{◌≡◌, ◌||◌, not, ℕ, Bool, suc, List, map, drop, sym, ap, ◌∙◌, subst, add-one}
use Rattle.vs_ast.specs.Views as view
use Rattle.vs_ast.specs.declared.items.Declarator.{Declarator}
use Rattle.vs_design.specs.Clocks.{same_name}
use Rattle.vs_const.specs.Faults.{least, fault_if}
use Rattle.vs_const.specs.declared.rules.Rule.TheVariants.{UnknownPort}
use Rattle.vs_elaborated.specs.Ports.{has_direction}
use Rattle.vs_scope.specs.Headers.{opposed_faults}
use Rattle.vs_maps.specs.Sets.{has}
use Rattle.vs_scope.proofs.Steps.{from_place, none_left}
use Rattle.vs_scope.proofs.HeaderLoops.{AreDirected, direction, directed_start, directed_more, directed_end}
use Rattle.vs_scope.proofs.header.direct.Goals as goal

pub loop-d-init : goal.loop-d-init
loop-d-init c = directed_start _ _ _

pub loop-d-preserved : goal.loop-d-preserved
loop-d-preserved c =
    let items = c.deref-d-items.result.now in
    let f = λ (d : Declarator). direction (view.signal_kind c.args.signals.now.kind) (view.declarator d) in
    let g = λ (ds : List Declarator). map (direction (view.signal_kind c.args.signals.now.kind)) (map view.declarator ds) in
    let i = c.loop-d.d-index in
    let d = view.name c.d-item.result.name in
    let known = has c.args.known.now in
    let text : c.as_slice-text.result.now ≡ d.bytes = c.as_slice-text.ensures in
    subst (λ (n : ℕ). AreDirected known (has c.args.directed.now) (has c.add.new.self) c.first_of-fault.result (g (drop n items)) (g items)) (sym (add-one i))
    (directed_more known (has c.args.directed.now) (has c.loop-d.directed) (has c.add.new.self) (f c.d-item.result) (g (drop (suc i) items)) (g items) c.loop-d.fault c.fault_if.result c.first_of-fault.result
    (subst (λ (x : List Declarator). AreDirected known (has c.args.directed.now) (has c.loop-d.directed) c.loop-d.fault (g x) (g items)) (from_place items i c.d-item.result c.loop-d-test.true c.d-item.is) c.loop-d.invariant)
    (c.fault_if.ensures ∙ ap (λ (b : Bool). least (fault_if (not b) UnknownPort d.place)) (c.contains-unknown.ensures ∙ ap known text))
    c.first_of-fault.ensures
    (λ n. c.in_ok-add.ensures n ∙ ap (λ (x : List ℕ). same_name x n || has c.loop-d.directed n) text))

pub returns-clause-fault : goal.returns-clause-fault
returns-clause-fault c =
    let items = c.deref-d-items.result.now in
    let known = has c.args.known.now in
    let kind = view.signal_kind c.args.signals.now.kind in
    let g = λ (ds : List Declarator). map (direction kind) (map view.declarator ds) in
    (directed_end known (has c.args.directed.now) (has c.loop-d.directed) c.loop-d.fault (g items)
    (subst (λ (x : List Declarator). AreDirected known (has c.args.directed.now) (has c.loop-d.directed) c.loop-d.fault (g x) (g items)) (none_left items c.loop-d.d-index c.loop-d-test.false) c.loop-d.invariant)).0
    ∙ ap (λ (x : List Declarator). least (opposed_faults known (g x))) c.deref-d-items.ensures.value

pub returns-clause-directed : goal.returns-clause-directed
returns-clause-directed c = λ n.
    let items = c.deref-d-items.result.now in
    let known = has c.args.known.now in
    let kind = view.signal_kind c.args.signals.now.kind in
    let g = λ (ds : List Declarator). map (direction kind) (map view.declarator ds) in
    (directed_end known (has c.args.directed.now) (has c.loop-d.directed) c.loop-d.fault (g items)
    (subst (λ (x : List Declarator). AreDirected known (has c.args.directed.now) (has c.loop-d.directed) c.loop-d.fault (g x) (g items)) (none_left items c.loop-d.d-index c.loop-d-test.false) c.loop-d.invariant)).1 n
    ∙ ap (λ (x : List Declarator). has_direction (g x) n || has c.args.directed.now n) c.deref-d-items.ensures.value
