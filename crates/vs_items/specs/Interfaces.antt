-- What an instance sees of its module.
use Rattle.std.specs.Prelude.{◌≡◌, map, Option, Some, None}
use Rattle.std.specs.Borrow.{Bor}
use Rattle.vs_grammar.specs.Trees as tree
use Rattle.vs_elaborated.specs.Ports.{ports_of, overridable}
use Rattle.vs_maps.specs.MapViews.{pairs}
use Rattle.vs_items.specs.declared.interfaces.Interface.{Interface}
use Rattle.vs_items.specs.Noted.{AreFirst}
use Rattle.vs_items.specs.Ports.{name_bytes, name_only}
use Rattle.vs_items.specs.PortTables.{ArePorts}

-- the ports and parameters of this module
pub record IsInterface (i : Interface) (m : tree.Module) : Type 0 where
  pub ports : ArePorts i.ports (ports_of m)
  pub parameters : map name_bytes i.parameters.items ≡ overridable m
  pub names : AreFirst (pairs i.names) (map name_only (overridable m))

-- what is known of the module that an instance names: nothing, if the text doesn't have it
abbrev pub IsKnown : Option (Bor Interface) → Option tree.Module → Type 0
IsKnown None None = Unit {0}
IsKnown (Some i) (Some m) = IsInterface i.now m
IsKnown _ _ = ⊥
