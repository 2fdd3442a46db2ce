use Rattle.std.proofs.Common.{◌≡◌, ◌++◌, map, drop}
use Rattle.vs_ast.specs.Views as view
use Rattle.vs_scope.specs.Views.{declaration}
use Rattle.vs_scope.proofs.Collected.{parameter_declared}
use Rattle.vs_scope.proofs.collect.collect_parameters.Given as goal

abbrev pub invariant-loop-s : goal.invariant-loop-s
invariant-loop-s l = map declaration l.list.items ++ map (parameter_declared (view.parameters l.parameters)) (map view.setting (drop l.s-index l.s-items)) ≡ map declaration l.fn.list.items ++ map (parameter_declared (view.parameters l.parameters)) (map view.setting l.s-items)
