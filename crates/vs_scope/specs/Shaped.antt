-- Declarations as the grammar has them.
use Rattle.std.specs.Prelude.{◌≡◌, List, [], ◌∷◌}
use Rattle.vs_grammar.specs.Trees.{Name}
use Rattle.vs_grammar.specs.Shapes.{IsExpr, IsRange, IsValueType, IsFunction, Given}
use Rattle.vs_elaborated.specs.Declarations.{Sort, SignalOf, ParameterOf, FunctionOf, GenvarSort, IntegerSort, InstanceSort, Declaration, Named}

-- ranges, types, addresses, values and functions are the grammar's; a function has the name of its declaration
abbrev pub IsShapedSort : Name → Sort → Type 0
IsShapedSort name (SignalOf s) = IsValueType s.value_type × Given IsRange s.addresses
IsShapedSort name (ParameterOf p) = IsValueType p.value_type × IsExpr p.value
IsShapedSort name (FunctionOf f) = IsFunction f × (name ≡ f.name)
IsShapedSort name GenvarSort = Unit {0}
IsShapedSort name IntegerSort = Unit {0}
IsShapedSort name InstanceSort = Unit {0}

-- of a declaration
abbrev pub IsShaped : Declaration → Type 0
IsShaped d = IsShapedSort d.name d.sort

-- of all
abbrev pub AreShaped : List Declaration → Type 0
AreShaped [] = Unit {0}
AreShaped (d ∷ ds) = IsShaped d × AreShaped ds

-- both declarations of a name
abbrev pub AreShapedNames : List Named → Type 0
AreShapedNames [] = Unit {0}
AreShapedNames (n ∷ ns) = (IsShaped n.first × Given IsShaped n.second) × AreShapedNames ns
