use Rattle.std.proofs.Common.{◌≡◌, map, flat_map, take}
use Rattle.vs_ast.specs.Views as view
use Rattle.vs_const.specs.Faults.{least}
use Rattle.vs_bodies.proofs.FaultLists.{of_target}
use Rattle.vs_bodies.proofs.words.+targets.Given as goal

abbrev pub invariant-targets_memory-loop-part : goal.invariant-targets_memory-loop-part
invariant-targets_memory-loop-part g l = l.fault ≡ least (flat_map (of_target (g.E.Env.names l.env)) (map view.target (take l.part-index l.list)))
