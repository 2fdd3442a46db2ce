-- The faults of values that are connected.
use Rattle.std.specs.Prelude.{Bool, List, [], Option, Some, None}
use Rattle.vs_grammar.specs.Trees as tree
use Rattle.vs_const.specs.declared.faults.Fault.{Fault}
use Rattle.vs_const.specs.Expressions.{typed}
use Rattle.vs_elaborated.specs.Environments.{Env, named}

-- of one that may be missing
abbrev pub value_faults : Env → Bool → Option tree.Expr → List Fault
value_faults env needed None = []
value_faults env needed (Some e) = (typed e (named env) needed).faults

-- of one with a name
abbrev pub named_faults : Env → Bool → tree.NamedConnection → List Fault
named_faults env needed c = value_faults env needed c.e
