-- What named blocks declare, one declaration after the other.
use Rattle.std.specs.Prelude.{List, [], ◌∷◌, ◌++◌, is_some}
use Rattle.vs_grammar.specs.Trees as tree
use Rattle.vs_ast.specs.declared.names.Name.{Name}
use Rattle.vs_ast.specs.declared.types.Variables.{Variables}
use Rattle.vs_ast.specs.Views as view
use Rattle.vs_const.specs.declared.faults.Fault.{Fault}
use Rattle.vs_const.specs.declared.rules.Rule.TheVariants.{DuplicateName}
use Rattle.vs_const.specs.Faults.{fault_if}
use Rattle.vs_elaborated.specs.Statements.{Local, locals_of, find_local}

-- a name that is declared so
abbrev pub local : tree.ValueType → Name → Local
local t n = record { name = view.name n; value_type = t }

-- of one declaration
abbrev pub locals : Variables → List Local
locals v = locals_of (view.variables v)

-- those of a name that one before has
abbrev pub later_faults : (before : List Local) → List Local → List Fault
later_faults before [] = []
later_faults before (v ∷ vs) = fault_if (is_some (find_local before v.name.bytes)) DuplicateName v.name.place ++ later_faults (before ++ v ∷ []) vs
