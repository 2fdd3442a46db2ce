use Rattle.std.proofs.Common.{◌≡◌, ◌++◌, map, flat_map, drop}
use Rattle.vs_ast.specs.Views as view
use Rattle.vs_elaborated.specs.Declarations as spec
use Rattle.vs_scope.specs.Views.{declaration}
use Rattle.vs_scope.proofs.collect.collect_header_parameters.Given as goal

abbrev pub invariant-loop-p : goal.invariant-loop-p
invariant-loop-p l = map declaration l.list.items ++ flat_map spec.parameters_declared (map view.parameters (drop l.p-index l.all)) ≡ map declaration l.fn.list.items ++ flat_map spec.parameters_declared (map view.parameters l.all)
