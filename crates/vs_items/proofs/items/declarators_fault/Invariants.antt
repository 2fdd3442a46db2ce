use Rattle.std.proofs.Common.{◌≡◌, map, flat_map, take}
use Rattle.vs_ast.specs.Views as view
use Rattle.vs_const.specs.Faults.{least}
use Rattle.vs_scope.specs.Frames.{view_env}
use Rattle.vs_elaborated.specs.Signals.{is_reg}
use Rattle.vs_items.specs.Items.{declarator_faults}
use Rattle.vs_items.proofs.items.declarators_fault.Given as goal

abbrev pub invariant-loop-d : goal.invariant-loop-d
invariant-loop-d l = l.fault ≡ least (flat_map (declarator_faults (view_env l.here) (is_reg (view.signal_kind l.kind))) (map view.declarator (take l.d-index l.names)))
