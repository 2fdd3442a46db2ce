use Rattle.std.proofs.Common.{◌≡◌, take, drop}
use Rattle.vs_job.specs.Places as spec
use Rattle.vs_job.proofs.places.same_paths.Given as goal

abbrev pub invariant-loop-n : goal.invariant-loop-n
invariant-loop-n l = spec.same_paths l.job ≡ spec.same_from (take l.n (spec.places l.job)) (drop l.n (spec.places l.job))
