-- The faults of assigns, and of values where names are declared.
use Rattle.std.specs.Prelude.{Bool, false, List, [], ◌++◌, Option, Some, None}
use Rattle.vs_grammar.specs.Trees as tree
use Rattle.vs_const.specs.declared.faults.Fault.{Fault}
use Rattle.vs_const.specs.Expressions.{typed}
use Rattle.vs_elaborated.specs.Environments.{Env, named}
use Rattle.vs_elaborated.specs.Targets.{target_base, typed_target}

-- of an assign
abbrev pub assign_faults : Env → tree.Assign → List Fault
assign_faults env a = (typed_target a.target (named env) false).faults ++ (typed a.e (named env) false).faults

-- of a net, or of a variable, with this value
abbrev pub value_faults : Env → (variable : Bool) → tree.Name → Option tree.Expr → List Fault
value_faults env variable name None = []
value_faults env variable name (Some e) = (target_base variable name.place false (named env name.bytes)).faults ++ (typed e (named env) false).faults

-- of a declared name
abbrev pub declarator_faults : Env → (variable : Bool) → tree.Declarator → List Fault
declarator_faults env variable d = value_faults env variable d.name d.value
