use Rattle.vs_bodies.proofs.Parts.{SoFar}
use Rattle.vs_bodies.proofs.Telling.{target_part}
use Rattle.vs_bodies.proofs.targets.+targets.Given as goal

abbrev pub invariant-targets_told-loop-part : goal.invariant-targets_told-loop-part
invariant-targets_told-loop-part g l = SoFar (target_part (g.E.Env.names l.env) l.procedural) l.list l.part-index 0 l.told
