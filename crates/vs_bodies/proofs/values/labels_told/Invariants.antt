use Rattle.vs_bodies.proofs.Parts.{SoFar}
use Rattle.vs_bodies.proofs.Telling.{label_told}
use Rattle.vs_bodies.proofs.values.labels_told.Given as goal

abbrev pub invariant-loop-label : goal.invariant-loop-label
invariant-loop-label g l = SoFar (label_told (g.E.Env.names l.env)) l.labels l.label-index 0 l.told
