use Rattle.std.proofs.Common.{map, drop}
use Rattle.vs_ast.specs.Views as view
use Rattle.vs_maps.specs.Sets.{has}
use Rattle.vs_scope.proofs.HeaderLoops.{AreRepeated}
use Rattle.vs_scope.proofs.header.repeated_name.Given as goal

abbrev pub invariant-loop-name : goal.invariant-loop-name
invariant-loop-name l = AreRepeated (has l.known) l.fault (map view.name (drop l.name-index l.names)) (map view.name l.names)
