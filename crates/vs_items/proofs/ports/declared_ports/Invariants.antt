use Rattle.std.proofs.Common.{◌≡◌, map, flat_map, take}
use Rattle.vs_ast.specs.Views as view
use Rattle.vs_elaborated.specs.Ports.{directions_in}
use Rattle.vs_items.specs.Ports.{port_of, declared_port}
use Rattle.vs_items.proofs.ports.declared_ports.Given as goal

abbrev pub invariant-loop-signals : goal.invariant-loop-signals
invariant-loop-signals l = map port_of l.ports.items ≡ map declared_port (flat_map directions_in (map view.signals (take l.signals-index l.declarations)))
