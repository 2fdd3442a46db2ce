use Rattle.std.proofs.Common.{◌≡◌, map, take}
use Rattle.vs_ast.specs.Views as view
use Rattle.vs_build.specs.Growth.{draft}
use Rattle.vs_build.specs.Items.{and_processes, assign_processes}
use Rattle.vs_build.proofs.items.assign_each.Given as goal

abbrev pub invariant-loop-a : goal.invariant-loop-a
invariant-loop-a g l = draft l.builder ≡ and_processes (draft l.initial.builder) (assign_processes l.place (map view.assign (take l.a-index l.list)) (g.E.Env.names l.env))
