use Rattle.std.proofs.Common.{◌≡◌, ◌++◌, map, flat_map, take}
use Rattle.vs_ast.specs.Views as view
use Rattle.vs_accept.specs.Outputs.{outputs_in}
use Rattle.vs_accept.proofs.outputs.push_declared.Given as goal

abbrev pub invariant-loop-signals : goal.invariant-loop-signals
invariant-loop-signals l = l.names.items ≡ l.fn.names.items ++ flat_map outputs_in (map view.signals (take l.signals-index l.declarations))
