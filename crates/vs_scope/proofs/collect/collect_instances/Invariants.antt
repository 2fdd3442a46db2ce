use Rattle.std.proofs.Common.{◌≡◌, ◌++◌, map, drop}
use Rattle.vs_ast.specs.Views as view
use Rattle.vs_scope.specs.Views.{declaration}
use Rattle.vs_scope.specs.Declares.{instance_declared}
use Rattle.vs_scope.proofs.collect.collect_instances.Given as goal

abbrev pub invariant-loop-i : goal.invariant-loop-i
invariant-loop-i l = map declaration l.list.items ++ map (instance_declared) (map view.instance (drop l.i-index l.i-items)) ≡ map declaration l.fn.list.items ++ map (instance_declared) (map view.instance l.i-items)
