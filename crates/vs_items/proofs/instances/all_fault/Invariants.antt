use Rattle.std.proofs.Common.{◌≡◌, Option, map, flat_map, take}
use Rattle.vs_grammar.specs.Trees as tree
use Rattle.vs_ast.specs.Views as view
use Rattle.vs_const.specs.Faults.{least}
use Rattle.vs_scope.specs.Frames.{view_env}
use Rattle.vs_items.specs.Instances.{instance_faults}
use Rattle.vs_items.specs.Interfaces.{IsKnown}
use Rattle.vs_items.proofs.instances.all_fault.Given as goal

abbrev pub invariant-loop-i : goal.invariant-loop-i
invariant-loop-i l =
    (m : Option tree.Module) → IsKnown l.known m → l.fault ≡ least (flat_map (instance_faults m (view_env l.here)) (map view.instance (take l.i-index l.instances)))
