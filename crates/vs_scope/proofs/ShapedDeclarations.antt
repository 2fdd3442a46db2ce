-- Every declaration of a module's tree is as the grammar has it.
use Rattle.std.proofs.Common.{◌≡◌, ℕ, Bool, true, false, List, [], ◌∷◌, ◌++◌, map, flat_map, Option, Some, None, refl}
use Rattle.vs_grammar.specs.Trees as tree
use Rattle.vs_grammar.specs.Trees.{items_list}
use Rattle.vs_grammar.specs.Shapes.{IsRange, IsValueType, Given, Each, OneOrMore, IsStored, IsPort, IsVariablePort, AreNames, AreSignals, IsSetting, AreParameters, ArePorts, AreHeaderParameters, IsGenerateItem, IsItem, AreItems, IsHeader, IsModule}
use Rattle.vs_elaborated.specs.Declarations.{Declaration, signals_declared, parameters_declared, integer_sort, item_declared, items_declared, header_declared, module_declared}
use Rattle.vs_elaborated.specs.Uses.{is_variable_of}
use Rattle.vs_scope.specs.Shaped.{AreShaped, IsShapedSort}
use Rattle.vs_scope.specs.Declares.{genvar_declared, integer_declared, instance_declared}
use Rattle.vs_scope.proofs.Collected.{signal_declared, parameter_declared}

both_shaped : (xs ys : List Declaration) → AreShaped xs → AreShaped ys → AreShaped (xs ++ ys)
both_shaped [] ys h k = k
both_shaped (x ∷ xs) ys h k = (h.0, both_shaped xs ys h.1 k)

-- addresses are a range
abbrev IsAddressed : tree.Declarator → Type 0
IsAddressed d = Given IsRange d.addresses

no_addresses : (a : Option tree.RangeTree) → a ≡ None → Given IsRange a
no_addresses None h = tt
no_addresses (Some r) h = cc

each_of : (P : tree.Declarator → Type 0) → ((d : tree.Declarator) → P d → IsAddressed d) → (ds : List tree.Declarator) → Each P ds → Each IsAddressed ds
each_of P f [] h = tt
each_of P f (d ∷ ds) h = (f d h.0, each_of P f ds h.1)

all_of : (P : tree.Declarator → Type 0) → ((d : tree.Declarator) → P d → IsAddressed d) → (ds : List tree.Declarator) → OneOrMore P ds → Each IsAddressed ds
all_of P f [] h = tt
all_of P f (d ∷ ds) h = (f d h.0, each_of P f ds h.1)

port_addressed : (d : tree.Declarator) → IsPort d → IsAddressed d
port_addressed d h = no_addresses d.addresses h.1

names_addressed : (k : tree.SignalKind) (ds : List tree.Declarator) → AreNames k ds → Each IsAddressed ds
names_addressed tree.Reg ds h = all_of IsStored (λ d k. k.1) ds h
names_addressed tree.Wire ds h = all_of IsStored (λ d k. k.1) ds h
names_addressed tree.Input ds h = all_of IsPort port_addressed ds h
names_addressed tree.InputWire ds h = all_of IsPort port_addressed ds h
names_addressed tree.Output ds h = all_of IsPort port_addressed ds h
names_addressed tree.OutputWire ds h = all_of IsPort port_addressed ds h
names_addressed tree.OutputReg ds h = all_of IsVariablePort (λ d k. no_addresses d.addresses k.1) ds h

names_shaped : (header : Bool) (t : tree.Signals) (ds : List tree.Declarator) → Given IsRange t.range → Each IsAddressed ds → AreShaped (map (signal_declared header t) ds)
names_shaped header t [] h k = tt
names_shaped header t (d ∷ ds) h k = ((h, k.0), names_shaped header t ds h k.1)

signals_shaped : (header : Bool) (t : tree.Signals) → AreSignals t → AreShaped (signals_declared header t)
signals_shaped header t h = names_shaped header t t.names h.range (names_addressed t.kind t.names h.names)

settings_shaped : (t : tree.Parameters) (ss : List tree.Setting) → IsValueType t.value_type → Each IsSetting ss → AreShaped (map (parameter_declared t) ss)
settings_shaped t [] h k = tt
settings_shaped t (s ∷ ss) h k = ((h, k.0.1), settings_shaped t ss h k.1)

some_settings : (t : tree.Parameters) (ss : List tree.Setting) → IsValueType t.value_type → OneOrMore IsSetting ss → AreShaped (map (parameter_declared t) ss)
some_settings t [] h k = tt
some_settings t (s ∷ ss) h k = ((h, k.0.1), settings_shaped t ss h k.1)

genvars_shaped : (ns : List tree.Name) → AreShaped (map genvar_declared ns)
genvars_shaped [] = tt
genvars_shaped (n ∷ ns) = (tt, genvars_shaped ns)

integer_shaped : (n : tree.Name) (b : Bool) → IsShapedSort n (integer_sort b)
integer_shaped n true = (tt, tt)
integer_shaped n false = tt

integers_shaped : (v : List ℕ → Bool) (ns : List tree.Name) → AreShaped (map (integer_declared v) ns)
integers_shaped v [] = tt
integers_shaped v (n ∷ ns) = (integer_shaped n (v n.bytes), integers_shaped v ns)

instances_shaped : (is : List tree.Instance) → AreShaped (map instance_declared is)
instances_shaped [] = tt
instances_shaped (i ∷ is) = (tt, instances_shaped is)

parameters_shaped : (t : tree.Parameters) → AreParameters t → AreShaped (parameters_declared t)
parameters_shaped t h = some_settings t t.settings h.value_type h.settings

item_shaped : (v : List ℕ → Bool) (i : tree.Item) → IsItem i → AreShaped (item_declared v i)
item_shaped v (tree.SignalsItem t) h = signals_shaped false t h
item_shaped v (tree.ParametersItem t) h = parameters_shaped t h
item_shaped v (tree.AssignsItem place assigns) h = tt
item_shaped v (tree.AlwaysItem block) h = tt
item_shaped v (tree.InitialItem block) h = tt
item_shaped v (tree.GenvarsItem place names) h = genvars_shaped names
item_shaped v (tree.IntegersItem place names) h = integers_shaped v names
item_shaped v (tree.FunctionItem f) h = ((h, refl), tt)
item_shaped v (tree.InstancesItem t) h = instances_shaped t.instances
item_shaped v (tree.GenerateFor head block) h = tt
item_shaped v (tree.GenerateIf place c taken other) h = tt
item_shaped v (tree.GenerateCase place subject arms other) h = tt

items_shaped : (v : List ℕ → Bool) (is : tree.Items) → AreItems is → AreShaped (flat_map (item_declared v) (items_list is))
items_shaped v tree.NoItem h = tt
items_shaped v (tree.AndItem i is) h = both_shaped (item_declared v i) (flat_map (item_declared v) (items_list is)) (item_shaped v i h.0) (items_shaped v is h.1)

header_parameters : (ps : List tree.Parameters) → Each AreHeaderParameters ps → AreShaped (flat_map parameters_declared ps)
header_parameters [] h = tt
header_parameters (p ∷ ps) h = both_shaped (parameters_declared p) (flat_map parameters_declared ps) (parameters_shaped p h.0.0) (header_parameters ps h.1)

ports_shaped : (ps : List tree.Signals) → Each ArePorts ps → AreShaped (flat_map (signals_declared true) ps)
ports_shaped [] h = tt
ports_shaped (p ∷ ps) h = both_shaped (signals_declared true p) (flat_map (signals_declared true) ps) (signals_shaped true p h.0.0) (ports_shaped ps h.1)

some_ports : (ps : List tree.Signals) → OneOrMore ArePorts ps → AreShaped (flat_map (signals_declared true) ps)
some_ports [] h = tt
some_ports (p ∷ ps) h = both_shaped (signals_declared true p) (flat_map (signals_declared true) ps) (signals_shaped true p h.0.0) (ports_shaped ps h.1)

header_shaped : (h : tree.Header) → IsHeader h → AreShaped (header_declared h)
header_shaped tree.NoPorts h = tt
header_shaped (tree.PlainPorts names) h = tt
header_shaped (tree.DeclaredPorts ports) h = some_ports ports h

-- of a module
pub module_shaped : (m : tree.Module) → IsModule m → AreShaped (module_declared m)
module_shaped m h =
    both_shaped (flat_map parameters_declared m.parameters) (header_declared m.header ++ items_declared (items_list m.items)) (header_parameters m.parameters h.parameters)
    (both_shaped (header_declared m.header) (items_declared (items_list m.items)) (header_shaped m.header h.header) (items_shaped (is_variable_of (items_list m.items)) m.items h.items))

generate_item : (i : tree.Item) → IsGenerateItem i → IsItem i
generate_item (tree.SignalsItem t) h = h.0
generate_item (tree.ParametersItem t) h = h.0
generate_item (tree.AssignsItem place assigns) h = h
generate_item (tree.AlwaysItem block) h = h
generate_item (tree.InitialItem block) h = h
generate_item (tree.GenvarsItem place names) h = h
generate_item (tree.IntegersItem place names) h = h
generate_item (tree.FunctionItem f) h = absurd h
generate_item (tree.InstancesItem t) h = h
generate_item (tree.GenerateFor head block) h = h
generate_item (tree.GenerateIf place c taken other) h = h
generate_item (tree.GenerateCase place subject arms other) h = h

-- of the items of a generate block
block_shaped_by : (v : List ℕ → Bool) (is : List tree.Item) → Each IsGenerateItem is → AreShaped (flat_map (item_declared v) is)
block_shaped_by v [] h = tt
block_shaped_by v (i ∷ is) h = both_shaped (item_declared v i) (flat_map (item_declared v) is) (item_shaped v i (generate_item i h.0)) (block_shaped_by v is h.1)

pub block_shaped : (is : List tree.Item) → Each IsGenerateItem is → AreShaped (items_declared is)
block_shaped is h = block_shaped_by (is_variable_of is) is h
