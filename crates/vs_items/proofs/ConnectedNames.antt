-- One more name among those connected.
use Rattle.std.proofs.Common.{◌≡◌, ℕ, Bool, true, false, ◌||◌, List, [], ◌∷◌, ◌++◌, map, Some, if◌then◌else◌, refl, sym, ap, ◌∙◌, append_assoc}
use Rattle.std.specs.Prelude.{is_some}
use Rattle.std.proofs.lemmas.List.{append-nil}
use Rattle.vs_design.specs.Clocks.{same_name}
use Rattle.vs_grammar.specs.Trees as tree
use Rattle.vs_grammar.specs.Trees.{Name}
use Rattle.vs_elaborated.specs.Ports.{is_named}
use Rattle.vs_elaborated.specs.Instances.{connected_names}
use Rattle.vs_maps.specs.Maps.{Pair, value_at}
use Rattle.vs_items.specs.Noted.{named}
use Rattle.vs_items.specs.Connected.{name_faults}

-- a connection's name, with nothing
abbrev pub named_only : tree.NamedConnection → Pair (Unit {0})
named_only c = named c.name.bytes tt

abbrev pub is_again : List tree.NamedConnection → List ℕ → Bool
is_again cs name = is_some (value_at name (map named_only cs))

or_false : (b : Bool) → (b || false) ≡ b
or_false true = refl
or_false false = refl

again_more : (seen : List Name) (c : tree.NamedConnection) (cs : List tree.NamedConnection) (name : List ℕ)
    → (is_named name (c.name ∷ seen) || is_again cs name) ≡ (is_named name seen || is_again (c ∷ cs) name)
again_more seen c cs name = by (same_name c.name.bytes name) (is_named name seen)
  where
    by : (same b : Bool) → ((same || b) || is_again cs name) ≡ (b || is_some (if same then Some tt else value_at name (map named_only cs)))
    by true true = refl
    by true false = refl
    by false b = refl

connected_behind : (is_known : List ℕ → Bool) (seen : List Name) (cs : List tree.NamedConnection) (c : tree.NamedConnection)
    → connected_names is_known seen (cs ++ c ∷ []) ≡ connected_names is_known seen cs ++ name_faults is_known (is_named c.name.bytes seen || is_again cs c.name.bytes) c.name
connected_behind is_known seen [] c =
    append-nil (name_faults is_known (is_named c.name.bytes seen) c.name) ∙ ap (λ b. name_faults is_known b c.name) (sym (or_false (is_named c.name.bytes seen)))
connected_behind is_known seen (d ∷ cs) c =
    let first = name_faults is_known (is_named d.name.bytes seen) d.name in
    ap (λ fs. first ++ fs) (connected_behind is_known (d.name ∷ seen) cs c)
    ∙ sym (append_assoc first (connected_names is_known (d.name ∷ seen) cs) (name_faults is_known (is_named c.name.bytes (d.name ∷ seen) || is_again cs c.name.bytes) c.name))
    ∙ ap (λ b. (first ++ connected_names is_known (d.name ∷ seen) cs) ++ name_faults is_known b c.name) (again_more seen d cs c.name.bytes)

pub connected_more : (is_known : List ℕ → Bool) (cs : List tree.NamedConnection) (c : tree.NamedConnection)
    → connected_names is_known [] (cs ++ c ∷ []) ≡ connected_names is_known [] cs ++ name_faults is_known (is_again cs c.name.bytes) c.name
connected_more is_known cs c = connected_behind is_known [] cs c
