use Rattle.std.proofs.Common.{◌≡◌, ℕ, List, [], ◌++◌, map, flat_map, Option, sym, ap, ◌∙◌}
use Rattle.vs_ast.specs.Views as view
use Rattle.vs_ast.specs.declared.items.Item.{Item}
use Rattle.vs_grammar.specs.Trees as tree
use Rattle.vs_const.specs.declared.faults.Fault.{Fault}
use Rattle.vs_const.specs.Faults.{least, better}
use Rattle.vs_const.proofs.Least.{least_append}
use Rattle.vs_elaborated.specs.Ports.{is_named, has_direction, item_directions, plain_names, repeated, body_directions}
use Rattle.vs_scope.specs.Headers.{opposed_faults, undirected_faults}
use Rattle.vs_maps.specs.Sets.{has}
use Rattle.vs_scope.proofs.Steps.{items_are}
use Rattle.vs_scope.proofs.HeaderLoops.{opposed_same, undirected_same}
use Rattle.vs_scope.proofs.header.header_fault.Goals as goal

three : (a b c : List Fault) (x y z i o : Option Fault) → x ≡ least a → y ≡ least b → z ≡ least c → i ≡ better y z → o ≡ better x i → o ≡ least (a ++ (b ++ c))
three a b c x y z i o h k m n p =
    p ∙ ap (λ (q : Option Fault). better q i) h ∙ ap (better (least a)) (n ∙ ap (λ (q : Option Fault). better q z) k ∙ ap (better (least b)) m ∙ sym (least_append b c)) ∙ sym (least_append a (b ++ c))

pub returns : goal.returns
returns c =
    let m = view.module_tree c.args.whole.now in
    let names = plain_names m.header in
    let ds = body_directions m in
    let plain : map view.name c.plain_names-names.result.now ≡ names = c.plain_names-names.ensures in
    let body : flat_map item_directions (map view.item c.as_slice.result.now) ≡ ds =
    ap (λ (x : List Item). flat_map item_directions (map view.item x)) c.as_slice.ensures.value ∙ ap (flat_map item_directions) (sym (items_are c.args.whole.now.items.items)) in
    let known : (n : List ℕ) → has c.repeated_name.new.known n ≡ is_named n names = λ n. c.in_ok-repeated.ensures.known n ∙ ap (is_named n) plain in
    let directed : (n : List ℕ) → has c.direct_items.new.directed n ≡ has_direction ds n = λ n. c.in_ok-opposed.ensures.directed n ∙ ap (λ x. has_direction x n) body in
    three (repeated [] names) (undirected_faults (has_direction ds) names) (opposed_faults (λ n. is_named n names) ds) c.in_ok-repeated.repeated c.undirected_name-undirected.result c.in_ok-opposed.opposed _ _
    (c.in_ok-repeated.ensures.fault ∙ ap (λ (x : List tree.Name). least (repeated [] x)) plain)
    (c.undirected_name-undirected.ensures ∙ ap (λ (x : List tree.Name). least (undirected_faults (has c.direct_items.new.directed) x)) plain ∙ ap least (undirected_same (has c.direct_items.new.directed) (has_direction ds) names directed))
    (c.in_ok-opposed.ensures.fault ∙ ap (λ x. least (opposed_faults (has c.repeated_name.new.known) x)) body ∙ ap least (opposed_same (has c.repeated_name.new.known) (λ n. is_named n names) ds known))
    c.first_of.ensures c.first_of-2.ensures
