use Rattle.std.proofs.Common.{◌≡◌, map, flat_map, take}
use Rattle.vs_ast.specs.Views as view
use Rattle.vs_const.specs.Faults.{least}
use Rattle.vs_scope.specs.Frames.{view_env}
use Rattle.vs_items.specs.Values.{named_faults}
use Rattle.vs_items.proofs.values.named_fault.Given as goal

abbrev pub invariant-loop-part : goal.invariant-loop-part
invariant-loop-part l = l.fault ≡ least (flat_map (named_faults (view_env l.here) l.needed) (map (view.named_connection) (take l.part-index l.parts)))
