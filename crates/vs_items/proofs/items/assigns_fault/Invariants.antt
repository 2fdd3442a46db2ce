use Rattle.std.proofs.Common.{◌≡◌, map, flat_map, take}
use Rattle.vs_ast.specs.Views as view
use Rattle.vs_const.specs.Faults.{least}
use Rattle.vs_scope.specs.Frames.{view_env}
use Rattle.vs_items.specs.Items.{assign_faults}
use Rattle.vs_items.proofs.items.assigns_fault.Given as goal

abbrev pub invariant-loop-a : goal.invariant-loop-a
invariant-loop-a l = l.fault ≡ least (flat_map (assign_faults (view_env l.here)) (map view.assign (take l.a-index l.assigns)))
