-- The modules of a text by their names, with what instances see of them.
use Rattle.std.specs.Prelude.{◌≡◌, ℕ, List, Option, Some, None}
use Rattle.vs_grammar.specs.Trees as tree
use Rattle.vs_ast.specs.Views.{module_tree}
use Rattle.vs_elaborated.specs.Ports.{find_module}
use Rattle.vs_maps.specs.declared.maps.NameMap.{NameMap}
use Rattle.vs_maps.specs.Maps.{value_at}
use Rattle.vs_maps.specs.MapViews.{pairs}
use Rattle.vs_items.specs.declared.modules.Known.{Known}
use Rattle.vs_items.specs.Interfaces.{IsInterface}

-- what is known of this module
pub record IsKnownOf (k : Known) (m : tree.Module) : Type 0 where
  pub of : module_tree k.of.now ≡ m
  pub seen : IsInterface k.seen m

-- nothing is known of a module that isn't in the text
abbrev pub IsOf : Option Known → Option tree.Module → Type 0
IsOf None None = Unit {0}
IsOf (Some k) (Some m) = IsKnownOf k m
IsOf _ _ = ⊥

-- the first module of each name of the text
pub record AreOf (names : NameMap Known) (source : tree.Source) : Type 0 where
  pub each : (name : List ℕ) → IsOf (value_at name (pairs names)) (find_module source name)
