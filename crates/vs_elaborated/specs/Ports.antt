-- The ports of a module, and its parameters (IEEE 1364-2005, 12.2 and 12.3).
use Rattle.std.specs.Prelude.{ℕ, Bool, not, List, [], ◌∷◌, ◌++◌, map, flat_map, if◌then◌else◌, Option, Some, None}
use Rattle.std.specs.List.{list_any}
use Rattle.vs_design.specs.Clocks.{same_name}
use Rattle.vs_grammar.specs.Trees as tree
use Rattle.vs_grammar.specs.Trees.{Name, Module, Source, items_list}
use Rattle.vs_grammar.specs.Shapes.{is_port_kind}
use Rattle.vs_const.specs.declared.faults.Fault.{Fault}
use Rattle.vs_const.specs.Faults.{fault_if}
use Rattle.vs_const.specs.declared.rules.Rule.TheVariants.{UnknownName, DuplicateName, UnknownPort}
use Rattle.vs_elaborated.specs.Signals.{is_input}

-- `input` says whether it is one; None for a name of the header's plain list that no declaration gives a direction
pub record Port : Type 0 where
  pub name : List ℕ
  pub input : Option Bool

-- a name that a declaration gives a direction
pub record Direction : Type 0 where
  pub name : Name
  pub input : Bool

-- all names of one declaration
abbrev pub directions_in : tree.Signals → List Direction
directions_in t = map (λ (d : tree.Declarator). record { name = d.name; input = is_input t.kind }) t.names

-- an `input` or `output` in a module's body
abbrev pub item_directions : tree.Item → List Direction
item_directions (tree.SignalsItem t) = if is_port_kind t.kind then directions_in t else []
item_directions _ = []

-- all of a body
abbrev pub body_directions : Module → List Direction
body_directions m = flat_map item_directions (items_list m.items)

-- the first direction of this name, if it has one
abbrev pub direction_of : List Direction → List ℕ → Option Bool
direction_of [] name = None
direction_of (d ∷ ds) name = if same_name d.name.bytes name then Some d.input else direction_of ds name

-- a plain list's names have their directions in the body
abbrev pub header_ports : tree.Header → List Direction → List Port
header_ports tree.NoPorts ds = []
header_ports (tree.PlainPorts names) ds = map (λ (n : Name). record { name = n.bytes; input = direction_of ds n.bytes }) names
header_ports (tree.DeclaredPorts ports) ds = map (λ (d : Direction). record { name = d.name.bytes; input = Some d.input }) (flat_map directions_in ports)

-- in the order of the header (12.3.1)
abbrev pub ports_of : Module → List Port
ports_of m = header_ports m.header (body_directions m)

-- the port of this name
abbrev pub find_port : List Port → List ℕ → Option Port
find_port [] name = None
find_port (p ∷ ps) name = if same_name p.name name then Some p else find_port ps name

-- the names of a header's plain list
abbrev pub plain_names : tree.Header → List Name
plain_names (tree.PlainPorts names) = names
plain_names _ = []

-- whether a name is among these
abbrev pub is_named : List ℕ → List Name → Bool
is_named name ns = list_any (λ (n : Name). same_name n.bytes name) ns

-- each name after the first of its kind; `seen` came before
abbrev pub repeated : List Name → List Name → List Fault
repeated seen [] = []
repeated seen (n ∷ ns) = fault_if (is_named n.bytes seen) DuplicateName n.place ++ repeated (n ∷ seen) ns

-- whether a declaration gives it a direction
abbrev pub has_direction : List Direction → List ℕ → Bool
has_direction ds name = list_any (λ (d : Direction). same_name d.name.bytes name) ds

-- the names of a plain list stand there once each and have directions in the body, where no other name has one (12.3.3)
abbrev pub header_faults : Module → List Fault
header_faults m =
    let names = plain_names m.header in
    let ds = body_directions m in
    repeated [] names ++ (flat_map (λ (n : Name). fault_if (not (has_direction ds n.bytes)) UnknownName n.place) names ++ flat_map (λ (d : Direction). fault_if (not (is_named d.name.bytes names)) UnknownPort d.name.place) ds)

-- the parameters that an item declares
abbrev pub item_parameters : tree.Item → List tree.Parameters
item_parameters (tree.ParametersItem t) = t ∷ []
item_parameters _ = []

-- a local parameter can't be overridden
abbrev pub parameter_names : tree.Parameters → List (List ℕ)
parameter_names t = if t.is_local then [] else map (λ (s : tree.Setting). s.name.bytes) t.settings

-- the names of the parameters that can be overridden, in the order of the text (12.2.2)
abbrev pub overridable : Module → List (List ℕ)
overridable m = flat_map parameter_names (m.parameters ++ flat_map item_parameters (items_list m.items))

-- the first of this name
abbrev pub find_in : List Module → List ℕ → Option Module
find_in [] name = None
find_in (m ∷ ms) name = if same_name m.name.bytes name then Some m else find_in ms name

-- the module of this name
abbrev pub find_module : Source → List ℕ → Option Module
find_module source name = find_in source.modules name
