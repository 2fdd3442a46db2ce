use Rattle.std.proofs.Common.{◌≡◌, ◌++◌, true, map, flat_map, drop}
use Rattle.vs_ast.specs.Views as view
use Rattle.vs_elaborated.specs.Declarations as spec
use Rattle.vs_scope.specs.Views.{declaration}
use Rattle.vs_scope.proofs.collect.collect_ports.Given as goal

abbrev pub invariant-loop-s : goal.invariant-loop-s
invariant-loop-s l = map declaration l.list.items ++ flat_map (spec.signals_declared true) (map view.signals (drop l.s-index l.all)) ≡ map declaration l.fn.list.items ++ flat_map (spec.signals_declared true) (map view.signals l.all)
