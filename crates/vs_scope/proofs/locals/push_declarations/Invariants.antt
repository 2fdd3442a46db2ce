use Rattle.std.proofs.Common.{◌≡◌, ◌++◌, map, flat_map, drop}
use Rattle.vs_ast.specs.Views as view
use Rattle.vs_elaborated.specs.Statements as statements
use Rattle.vs_scope.specs.Locals.{local}
use Rattle.vs_scope.proofs.locals.push_declarations.Given as goal

abbrev pub invariant-loop-v : goal.invariant-loop-v
invariant-loop-v l = map local l.list.items ++ flat_map statements.locals_of (map view.variables (drop l.v-index l.all)) ≡ map local l.fn.list.items ++ flat_map statements.locals_of (map view.variables l.all)
