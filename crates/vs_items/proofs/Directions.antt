-- The directions of declared names.
use Rattle.std.proofs.Common.{◌≡◌, ℕ, ◌+◌, ◌<◌, Bool, List, [], ◌∷◌, ◌++◌, length, map, flat_map, take, get_or, refl, ap, ◌∙◌}
use Rattle.std.proofs.lemmas.List.{map-append, append-nil}
use Rattle.std.proofs.lemmas.Grind.{flat_map-append}
use Rattle.vs_ast.specs.declared.items.Declarator.{Declarator}
use Rattle.vs_ast.specs.declared.items.Signals.{Signals}
use Rattle.vs_ast.specs.declared.items.Item.{Item}
use Rattle.vs_ast.specs.Views as view
use Rattle.vs_elaborated.specs.Signals as spec
use Rattle.std.specs.Prelude.{Option, Some, if◌then◌else◌}
use Rattle.vs_design.specs.Clocks.{same_name}
use Rattle.vs_grammar.specs.Trees as tree
use Rattle.vs_ast.specs.declared.names.Name.{Name}
use Rattle.vs_elaborated.specs.Ports as ports
use Rattle.vs_elaborated.specs.Ports.{directions_in, item_directions}
use Rattle.vs_maps.specs.Maps.{Pair, value_at}
use Rattle.vs_items.specs.Noted.{named}
use Rattle.vs_items.specs.Ports.{named_direction, declared_port}
use Rattle.vs_items.proofs.Repeats.{one_more}

-- of one name
abbrev pub declared_direction : Bool → Declarator → Pair Bool
declared_direction input d = named (view.name d.name).bytes input

-- of all names of a declaration
pub declared_directions : (kind : _) (s : Signals) → kind ≡ s.kind → map (declared_direction (spec.is_input (view.signal_kind kind))) s.names.items ≡ map named_direction (directions_in (view.signals s))
declared_directions kind s h = all s.names.items
  where
    all : (ds : List Declarator) → map (declared_direction (spec.is_input (view.signal_kind kind))) ds ≡ map named_direction (directions_in (record (view.signals s) { names = map view.declarator ds }))
    all [] = refl
    all (d ∷ ds) = ap (λ k. declared_direction (spec.is_input (view.signal_kind k)) d ∷ map (declared_direction (spec.is_input (view.signal_kind kind))) ds) h ∙ ap (λ r. declared_direction (spec.is_input (view.signal_kind s.kind)) d ∷ r) (all ds)

-- of one item more
pub item_more : (is : List Item) (i : ℕ) (item : Item) → i < length is → item ≡ get_or is i item
    → map named_direction (flat_map item_directions (map view.item (take (i + 1) is))) ≡ map named_direction (flat_map item_directions (map view.item (take i is))) ++ map named_direction (item_directions (view.item item))
item_more is i item h e =
    ap (λ xs. map named_direction (flat_map item_directions xs)) (one_more view.item is i item h e)
    ∙ ap (map named_direction) (flat_map-append item_directions (map view.item (take i is)) (view.item item ∷ []))
    ∙ map-append named_direction (flat_map item_directions (map view.item (take i is))) (flat_map item_directions (view.item item ∷ []))
    ∙ ap (λ r. map named_direction (flat_map item_directions (map view.item (take i is))) ++ map named_direction r) (append-nil (item_directions (view.item item)))

-- a port of a header's declaration
abbrev pub declared_name : Bool → Declarator → ports.Port
declared_name input d = record { name = (view.name d.name).bytes; input = Some input }

pub declared_names : (kind : _) (s : Signals) → kind ≡ s.kind → map (declared_name (spec.is_input (view.signal_kind kind))) s.names.items ≡ map declared_port (directions_in (view.signals s))
declared_names kind s h = all s.names.items
  where
    all : (ds : List Declarator) → map (declared_name (spec.is_input (view.signal_kind kind))) ds ≡ map declared_port (directions_in (record (view.signals s) { names = map view.declarator ds }))
    all [] = refl
    all (d ∷ ds) = ap (λ k. declared_name (spec.is_input (view.signal_kind k)) d ∷ map (declared_name (spec.is_input (view.signal_kind kind))) ds) h ∙ ap (λ r. declared_name (spec.is_input (view.signal_kind s.kind)) d ∷ r) (all ds)

-- of one name more of a plain header
pub plain_more : (ns : List Name) (i : ℕ) (n : Name) (ds : List ports.Direction) → i < length ns → n ≡ get_or ns i n
    → ports.header_ports (tree.PlainPorts (map view.name (take (i + 1) ns))) ds
    ≡ ports.header_ports (tree.PlainPorts (map view.name (take i ns))) ds ++ (let p : ports.Port = record { name = (view.name n).bytes; input = ports.direction_of ds (view.name n).bytes } in p) ∷ []
plain_more ns i n ds h e =
    let port : tree.Name → ports.Port = λ m. record { name = m.bytes; input = ports.direction_of ds m.bytes } in
    ap (map port) (one_more view.name ns i n h e) ∙ map-append port (map view.name (take i ns)) (view.name n ∷ [])

-- the direction of a name
pub direction_found : (ds : List ports.Direction) (name : List ℕ) → value_at name (map named_direction ds) ≡ ports.direction_of ds name
direction_found [] name = refl
direction_found (d ∷ ds) name = ap (λ o. if same_name d.name.bytes name then Some d.input else o) (direction_found ds name)

pub same_port : (m n : List ℕ) (i j : Option Bool) → m ≡ n → i ≡ j → (let p : ports.Port = record { name = m; input = i } in p) ≡ (let q : ports.Port = record { name = n; input = j } in q)
same_port m n i j h k = ap (λ x. let p : ports.Port = record { name = x; input = i } in p) h ∙ ap (λ y. let p : ports.Port = record { name = n; input = y } in p) k
