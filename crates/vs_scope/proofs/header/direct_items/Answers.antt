use Rattle.std.proofs.Common.{◌||◌, ℕ, Bool, suc, List, map, flat_map, drop, sym, ap, ◌∙◌, subst, add-one}
use Rattle.vs_ast.specs.Views as view
use Rattle.vs_ast.specs.declared.items.Item.{Item}
use Rattle.vs_elaborated.specs.Ports.{item_directions, has_direction}
use Rattle.vs_maps.specs.Sets.{has}
use Rattle.vs_scope.proofs.Steps.{from_place, none_left}
use Rattle.vs_scope.proofs.HeaderLoops.{AreDirected, or_false, directed_start, directed_all, directed_end}
use Rattle.vs_scope.proofs.header.direct_items.Goals as goal

pub loop-item-init : goal.loop-item-init
loop-item-init c = directed_start _ _ _

pub loop-item-preserved : goal.loop-item-preserved
loop-item-preserved c =
    let items = c.args.items.now in
    let g = λ (x : List Item). flat_map item_directions (map view.item x) in
    let i = c.loop-item.item-index in
    let known = has c.args.known.now in
    subst (λ (n : ℕ). AreDirected known (has c.args.directed.now) (has c.direct_item.new.directed) c.first_of-fault.result (g (drop n items)) (g items)) (sym (add-one i))
    (directed_all known (has c.args.directed.now) (has c.loop-item.directed) (has c.direct_item.new.directed) (item_directions (view.item c.item-item.result)) (g (drop (suc i) items)) (g items) c.loop-item.fault c.in_ok-found.found c.first_of-fault.result
    (subst (λ (x : List Item). AreDirected known (has c.args.directed.now) (has c.loop-item.directed) c.loop-item.fault (g x) (g items)) (from_place items i c.item-item.result c.loop-item-test.true c.item-item.is) c.loop-item.invariant)
    c.in_ok-found.ensures.fault
    c.first_of-fault.ensures
    c.in_ok-found.ensures.directed)

pub returns-clause-fault : goal.returns-clause-fault
returns-clause-fault c =
    let items = c.args.items.now in
    let g = λ (x : List Item). flat_map item_directions (map view.item x) in
    (directed_end (has c.args.known.now) (has c.args.directed.now) (has c.loop-item.directed) c.loop-item.fault (g items)
    (subst (λ (x : List Item). AreDirected (has c.args.known.now) (has c.args.directed.now) (has c.loop-item.directed) c.loop-item.fault (g x) (g items)) (none_left items c.loop-item.item-index c.loop-item-test.false) c.loop-item.invariant)).0

pub returns-clause-directed : goal.returns-clause-directed
returns-clause-directed c = λ n.
    let items = c.args.items.now in
    let g = λ (x : List Item). flat_map item_directions (map view.item x) in
    (directed_end (has c.args.known.now) (has c.args.directed.now) (has c.loop-item.directed) c.loop-item.fault (g items)
    (subst (λ (x : List Item). AreDirected (has c.args.known.now) (has c.args.directed.now) (has c.loop-item.directed) c.loop-item.fault (g x) (g items)) (none_left items c.loop-item.item-index c.loop-item-test.false) c.loop-item.invariant)).1 n
    ∙ ap (λ (b : Bool). has_direction (g items) n || b) (c.requires n) ∙ or_false (has_direction (g items) n)
