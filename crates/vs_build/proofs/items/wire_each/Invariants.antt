use Rattle.std.proofs.Common.{◌≡◌, map, take}
use Rattle.vs_ast.specs.Views as view
use Rattle.vs_build.specs.Growth.{draft}
use Rattle.vs_build.specs.Items.{and_processes, wire_processes}
use Rattle.vs_build.proofs.items.wire_each.Given as goal

abbrev pub invariant-loop-d : goal.invariant-loop-d
invariant-loop-d g l = draft l.builder ≡ and_processes (draft l.initial.builder) (wire_processes l.place (map view.declarator (take l.d-index l.names)) (g.E.Env.names l.env))
