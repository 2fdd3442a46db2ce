use Rattle.std.proofs.Common.{◌≡◌, ◌++◌, map, drop}
use Rattle.vs_ast.specs.Views as view
use Rattle.vs_scope.specs.Views.{declaration}
use Rattle.vs_scope.proofs.Collected.{signal_declared}
use Rattle.vs_scope.proofs.collect.collect_signals.Given as goal

abbrev pub invariant-loop-d : goal.invariant-loop-d
invariant-loop-d l = map declaration l.list.items ++ map (signal_declared l.header (view.signals l.signals)) (map view.declarator (drop l.d-index l.d-items)) ≡ map declaration l.fn.list.items ++ map (signal_declared l.header (view.signals l.signals)) (map view.declarator l.d-items)
