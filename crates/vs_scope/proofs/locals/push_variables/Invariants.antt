use Rattle.std.proofs.Common.{◌≡◌, ◌++◌, map, drop}
use Rattle.vs_ast.specs.Views as view
use Rattle.vs_scope.specs.Locals.{local}
use Rattle.vs_scope.proofs.LocalLists.{local_named}
use Rattle.vs_scope.proofs.locals.push_variables.Given as goal

abbrev pub invariant-loop-name : goal.invariant-loop-name
invariant-loop-name l =
    map local l.list.items ++ map (local_named (view.value_type l.v.value_type)) (map view.name (drop l.name-index l.name-items)) ≡ map local l.fn.list.items ++ map (local_named (view.value_type l.v.value_type)) (map view.name l.name-items)
