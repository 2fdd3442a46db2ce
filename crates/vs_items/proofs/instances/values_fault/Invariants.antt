use Rattle.std.proofs.Common.{◌≡◌, Option, map, flat_map, take}
use Rattle.vs_grammar.specs.Trees as tree
use Rattle.vs_ast.specs.Views as view
use Rattle.vs_const.specs.Faults.{least}
use Rattle.vs_elaborated.specs.Instances.{module_ports}
use Rattle.vs_scope.specs.Frames.{view_env}
use Rattle.vs_items.specs.Interfaces.{IsKnown}
use Rattle.vs_items.proofs.InstanceFaults.{port_faults}
use Rattle.vs_items.proofs.instances.values_fault.Given as goal

abbrev pub invariant-loop-part : goal.invariant-loop-part
invariant-loop-part l =
    (m : Option tree.Module) → IsKnown l.known m → l.fault ≡ least (flat_map (port_faults (module_ports m) (view_env l.here)) (map view.named_connection (take l.part-index l.parts)))
