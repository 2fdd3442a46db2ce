-- The ports of a module as the code keeps them.
use Rattle.std.specs.Prelude.{Bool, ℕ, List, Option, None, Some, flat_map}
use Rattle.std.specs.Borrow.{Bor}
use Rattle.vs_grammar.specs.Trees as tree
use Rattle.vs_ast.specs.declared.items.Setting.{Setting}
use Rattle.vs_ast.specs.Views as view
use Rattle.vs_elaborated.specs.Ports as ports
use Rattle.vs_items.specs.declared.ports.Port.{Port}
use Rattle.vs_items.specs.Noted.{named}
use Rattle.vs_maps.specs.Maps.{Pair}

-- a port
abbrev pub port_of : Port → ports.Port
port_of p = record { name = p.name.now; input = p.input }

-- a direction with the name that has it
abbrev pub named_direction : ports.Direction → Pair Bool
named_direction d = named d.name.bytes d.input

-- a port of a header's declarations
abbrev pub declared_port : ports.Direction → ports.Port
declared_port d = record { name = d.name.bytes; input = Some d.input }

-- a name that the text has
abbrev pub name_bytes : Bor (List ℕ) → List ℕ
name_bytes n = n.now

-- the name of a setting
abbrev pub setting_bytes : Setting → List ℕ
setting_bytes s = (view.setting s).name.bytes

-- the names that an item's parameters have
abbrev pub body_parameters : tree.Item → List (List ℕ)
body_parameters item = flat_map ports.parameter_names (ports.item_parameters item)

-- whether a port is an input, with its name
abbrev pub named_port : ports.Port → Pair (Option Bool)
named_port p = named p.name p.input

-- a name, with nothing
abbrev pub name_only : List ℕ → Pair (Unit {0})
name_only n = named n tt

-- the direction of a port, if it has one
abbrev pub input_of : Option ports.Port → Option Bool
input_of None = None
input_of (Some p) = p.input
