-- The module of an instance, where a text has it.
use Rattle.std.proofs.Common.{◌≡◌, ℕ, List, Option, Some, None, option_map, sym, ap, ◌∙◌, subst}
use Rattle.std.specs.Borrow.{Bor}
use Rattle.vs_grammar.specs.Trees as tree
use Rattle.vs_elaborated.specs.Ports.{find_module}
use Rattle.vs_maps.specs.declared.maps.NameMap.{NameMap}
use Rattle.vs_maps.specs.Maps.{value_at}
use Rattle.vs_maps.specs.MapViews.{pairs}
use Rattle.vs_items.specs.declared.modules.Known.{Known}
use Rattle.vs_items.specs.Modules.{IsOf, AreOf}

-- what is found is what is known of it
pub found_known : (source : tree.Source) (names : NameMap Known) (key name : List ℕ) (r : Option (Bor Known)) (k : Bor Known) → AreOf names source
    → option_map (λ (x : Bor Known). x.now) r ≡ value_at key (pairs names) → key ≡ name → r ≡ Some k → IsOf (Some k.now) (find_module source name)
found_known source names key name r k h e same is =
    subst (λ (o : Option Known). IsOf o (find_module source name)) (sym e ∙ ap (option_map (λ (x : Bor Known). x.now)) is)
    (subst (λ (n : List ℕ). IsOf (value_at key (pairs names)) (find_module source n)) same (h.each key))

-- one that the text has is found
pub found_some : (source : tree.Source) (names : NameMap Known) (key name : List ℕ) (r : Option (Bor Known)) (m : tree.Module) → AreOf names source
    → option_map (λ (x : Bor Known). x.now) r ≡ value_at key (pairs names) → key ≡ name → find_module source name ≡ Some m → r ≡ None → ⊥
found_some source names key name r m h e same has is =
    let known : IsOf None (Some m) =
    subst (λ (o : Option Known). IsOf o (Some m)) (sym e ∙ ap (option_map (λ (x : Bor Known). x.now)) is)
    (subst (λ (o : Option tree.Module). IsOf (value_at key (pairs names)) o) (ap (find_module source) same ∙ has) (h.each key)) in
    known
