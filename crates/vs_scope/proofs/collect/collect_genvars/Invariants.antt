use Rattle.std.proofs.Common.{◌≡◌, ◌++◌, map, drop}
use Rattle.vs_ast.specs.Views as view
use Rattle.vs_scope.specs.Views.{declaration}
use Rattle.vs_scope.specs.Declares.{genvar_declared}
use Rattle.vs_scope.proofs.collect.collect_genvars.Given as goal

abbrev pub invariant-loop-name : goal.invariant-loop-name
invariant-loop-name l = map declaration l.list.items ++ map (genvar_declared) (map view.name (drop l.name-index l.names)) ≡ map declaration l.fn.list.items ++ map (genvar_declared) (map view.name l.names)
