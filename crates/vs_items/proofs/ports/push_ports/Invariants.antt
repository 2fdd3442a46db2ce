use Rattle.std.proofs.Common.{◌≡◌, ◌++◌, map, take}
use Rattle.vs_ast.specs.Views as view
use Rattle.vs_elaborated.specs.Signals as spec
use Rattle.vs_items.specs.Ports.{port_of}
use Rattle.vs_items.proofs.Directions.{declared_name}
use Rattle.vs_items.proofs.ports.push_ports.Given as goal

abbrev pub invariant-loop-declarator : goal.invariant-loop-declarator
invariant-loop-declarator l = map port_of l.ports.items ≡ map port_of l.fn.ports.items ++ map (declared_name (spec.is_input (view.signal_kind l.signals.kind))) (take l.declarator-index l.declarator-items)
