use Rattle.std.proofs.Common.{◌≡◌, ◌++◌, map, flat_map, take}
use Rattle.vs_ast.specs.Views as view
use Rattle.vs_elaborated.specs.Ports.{parameter_names}
use Rattle.vs_items.specs.Ports.{name_bytes}
use Rattle.vs_items.proofs.ports.push_header.Given as goal

abbrev pub invariant-loop-parameters : goal.invariant-loop-parameters
invariant-loop-parameters l = map name_bytes l.names.items ≡ map name_bytes l.fn.names.items ++ flat_map parameter_names (map view.parameters (take l.parameters-index l.header))
