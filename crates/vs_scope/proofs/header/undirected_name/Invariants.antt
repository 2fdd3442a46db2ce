use Rattle.std.proofs.Common.{map, drop}
use Rattle.vs_ast.specs.Views as view
use Rattle.vs_scope.specs.Headers.{undirected_faults}
use Rattle.vs_maps.specs.Sets.{has}
use Rattle.vs_scope.specs.SoFar.{IsFirstSoFar}
use Rattle.vs_scope.proofs.header.undirected_name.Given as goal

abbrev pub invariant-loop-name : goal.invariant-loop-name
invariant-loop-name l = IsFirstSoFar l.fault (undirected_faults (has l.directed) (map view.name (drop l.name-index l.names))) (undirected_faults (has l.directed) (map view.name l.names))
