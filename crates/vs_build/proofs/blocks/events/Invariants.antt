use Rattle.std.proofs.Common.{◌≡◌, map, take}
use Rattle.vs_ast.specs.Views as view
use Rattle.vs_build.specs.Executable.{awaited_of, awaited}
use Rattle.vs_build.proofs.blocks.events.Given as goal

abbrev pub invariant-loop-e : goal.invariant-loop-e
invariant-loop-e g l = map awaited_of l.made.items ≡ map (awaited (g.E.Env.names l.env)) (map view.event (take l.e-index l.list))
