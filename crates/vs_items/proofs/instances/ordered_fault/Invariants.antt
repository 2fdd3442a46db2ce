use Rattle.std.proofs.Common.{◌≡◌, Option, map, drop}
use Rattle.vs_grammar.specs.Trees as tree
use Rattle.vs_ast.specs.Views as view
use Rattle.vs_const.specs.Faults.{least, better}
use Rattle.vs_elaborated.specs.Instances.{connected_by_order, module_ports}
use Rattle.vs_scope.specs.Frames.{view_env}
use Rattle.vs_items.specs.Interfaces.{IsKnown}
use Rattle.vs_items.proofs.instances.ordered_fault.Given as goal

abbrev pub invariant-loop-n : goal.invariant-loop-n
invariant-loop-n l =
    (m : Option tree.Module) → IsKnown l.known m
    → better l.fault (least (connected_by_order (module_ports m) l.n (map (view.option view.expr) (drop l.n l.parts)) (view_env l.here)).faults)
    ≡ least (connected_by_order (module_ports m) 0 (map (view.option view.expr) l.parts) (view_env l.here)).faults
