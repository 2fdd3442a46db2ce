-- The declarations of a scope: which names it has (IEEE 1364-2005, 12.7).
use Rattle.std.specs.Prelude.{ℕ, Bool, true, false, not, ◌&&◌, ◌||◌, List, [], ◌∷◌, ◌++◌, map, flat_map, if◌then◌else◌, is_some, Option, Some, None}
use Rattle.std.specs.List.{list_any}
use Rattle.vs_design.specs.Clocks.{same_name}
use Rattle.vs_grammar.specs.Trees as tree
use Rattle.vs_grammar.specs.Trees.{items_list, Input, Output, Reg, Wire}
use Rattle.vs_const.specs.declared.faults.Fault.{Fault}
use Rattle.vs_const.specs.Faults.{fault_if}
use Rattle.vs_const.specs.declared.rules.Rule.TheVariants.{DuplicateName}
use Rattle.vs_elaborated.specs.Uses.{is_variable_of}

-- a declaration of a signal, with the addresses of a memory (4.9); an integer that is a variable has the type of integers (4.8). `header` says whether it is one of a header's ports
pub record SignalSort : Type 0 where
  pub kind : tree.SignalKind
  pub value_type : tree.ValueType
  pub addresses : Option tree.RangeTree
  pub header : Bool

-- a declaration of a parameter, with its default; a local one isn't overridden (4.10.2)
pub record ParameterSort : Type 0 where
  pub is_local : Bool
  pub value_type : tree.ValueType
  pub value : tree.Expr

-- what is declared
pub data Sort : Type 0 where
  SignalOf : (sort : SignalSort) → Sort
  ParameterOf : (sort : ParameterSort) → Sort
  FunctionOf : (function : tree.Function) → Sort
  -- an integer that is no variable
  GenvarSort IntegerSort InstanceSort : Sort

-- a name and what it is declared as
pub record Declaration : Type 0 where
  pub name : tree.Name
  pub sort : Sort

-- all names of one declaration
abbrev pub signals_declared : Bool → tree.Signals → List Declaration
signals_declared header t = map (λ (d : tree.Declarator). record { name = d.name; sort = SignalOf (record { kind = t.kind; value_type = tree.RangeType t.signed t.range; addresses = d.addresses; header = header }) }) t.names

-- all names of one declaration
abbrev pub parameters_declared : tree.Parameters → List Declaration
parameters_declared t = map (λ (s : tree.Setting). record { name = s.name; sort = ParameterOf (record { is_local = t.is_local; value_type = t.value_type; value = s.value }) }) t.settings

-- an integer: a variable, or one whose value is that of a loop's turn (4.8, 9.6)
abbrev pub integer_sort : (is_variable : Bool) → Sort
integer_sort true = SignalOf (record { kind = Reg; value_type = tree.IntegerType; addresses = None; header = false })
integer_sort false = IntegerSort

-- the names that an item declares in its scope, by which integers are variables
abbrev pub item_declared : (is_variable : List ℕ → Bool) → tree.Item → List Declaration
item_declared is_variable (tree.SignalsItem t) = signals_declared false t
item_declared is_variable (tree.ParametersItem t) = parameters_declared t
item_declared is_variable (tree.GenvarsItem place names) = map (λ (n : tree.Name). record { name = n; sort = GenvarSort }) names
item_declared is_variable (tree.IntegersItem place names) = map (λ (n : tree.Name). record { name = n; sort = integer_sort (is_variable n.bytes) }) names
item_declared is_variable (tree.FunctionItem f) = record { name = f.name; sort = FunctionOf f } ∷ []
item_declared is_variable (tree.InstancesItem t) = map (λ (i : tree.Instance). record { name = i.name; sort = InstanceSort }) t.instances
item_declared is_variable _ = []

-- the names that the items of a scope declare
abbrev pub items_declared : List tree.Item → List Declaration
items_declared items = flat_map (item_declared (is_variable_of items)) items

-- the names that a header declares with directions (12.3.4)
abbrev pub header_declared : tree.Header → List Declaration
header_declared (tree.DeclaredPorts ports) = flat_map (signals_declared true) ports
header_declared _ = []

-- a module's declarations in text order
abbrev pub module_declared : tree.Module → List Declaration
module_declared m = flat_map parameters_declared m.parameters ++ (header_declared m.header ++ items_declared (items_list m.items))

-- a port's direction and its net or variable may be declared apart, in the body (12.3.3)
abbrev pub are_kinds_of_one : tree.SignalKind → tree.SignalKind → Bool
are_kinds_of_one Output Reg = true
are_kinds_of_one Output Wire = true
are_kinds_of_one Input Wire = true
are_kinds_of_one Reg Output = true
are_kinds_of_one Wire Output = true
are_kinds_of_one Wire Input = true
are_kinds_of_one _ _ = false

-- whether it declares a memory
abbrev pub has_addresses : SignalSort → Bool
has_addresses s = is_some s.addresses

-- two declarations of one signal; what a header declares with its direction is complete, and a port is no memory
abbrev pub are_sorts_of_one : Sort → Sort → Bool
are_sorts_of_one (SignalOf a) (SignalOf b) = not a.header && (not b.header && (not (has_addresses a) && (not (has_addresses b) && are_kinds_of_one a.kind b.kind)))
are_sorts_of_one _ _ = false

-- a name of the scope: its first declaration, and for a signal perhaps its second
pub record Named : Type 0 where
  pub first : Declaration
  pub second : Option Declaration

-- the second declaration of a signal, behind its first one
abbrev pub second_of : Declaration → List Declaration → Option Declaration
second_of a [] = None
second_of a (b ∷ bs) = if same_name a.name.bytes b.name.bytes && are_sorts_of_one a.sort b.sort then Some b else second_of a bs

-- `names` came before
abbrev pub names_after : List (List ℕ) → List Declaration → List Named
names_after names [] = []
names_after names (a ∷ rest) =
    if list_any (same_name a.name.bytes) names then names_after names rest else record { first = a; second = second_of a rest } ∷ names_after (a.name.bytes ∷ names) rest

-- in order of declaration
abbrev pub names_of : List Declaration → List Named
names_of ds = names_after [] ds

-- the first declaration of a name
abbrev pub first_named : List ℕ → List Declaration → Option Declaration
first_named name [] = None
first_named name (a ∷ rest) = if same_name a.name.bytes name then Some a else first_named name rest

-- whether a declaration is one too many, after these: its name was declared, and it isn't the second declaration of the same signal
abbrev pub is_repeated : List Declaration → Declaration → Bool
is_repeated before a = is_one_more (first_named a.name.bytes before)
  where
    is_one_more : Option Declaration → Bool
    is_one_more None = false
    is_one_more (Some first) = not (are_sorts_of_one first.sort a.sort) || is_some (second_of first before)

-- `before` are the declarations that came before
abbrev pub repeated_names : List Declaration → List Declaration → List Fault
repeated_names before [] = []
repeated_names before (a ∷ rest) = fault_if (is_repeated before a) DuplicateName a.name.place ++ repeated_names (before ++ a ∷ []) rest
