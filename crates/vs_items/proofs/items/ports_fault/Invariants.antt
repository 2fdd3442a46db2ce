use Rattle.std.proofs.Common.{◌≡◌, map, flat_map, take}
use Rattle.vs_ast.specs.Views as view
use Rattle.vs_const.specs.Faults.{least}
use Rattle.vs_scope.specs.Frames.{view_env}
use Rattle.vs_items.proofs.ItemFaults.{signals_faults}
use Rattle.vs_items.proofs.items.ports_fault.Given as goal

abbrev pub invariant-loop-s : goal.invariant-loop-s
invariant-loop-s l = l.fault ≡ least (flat_map (signals_faults (view_env l.here)) (map view.signals (take l.s-index l.ports)))
