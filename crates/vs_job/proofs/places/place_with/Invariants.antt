use Rattle.std.proofs.Common.{◌≡◌, take, None}
use Rattle.vs_job.specs.Places as spec
use Rattle.vs_job.specs.Paths.{ending, path_of}
use Rattle.vs_job.proofs.places.place_with.Given as goal

abbrev pub invariant-loop-i : goal.invariant-loop-i
invariant-loop-i l = spec.place_with (path_of (ending l.job.mode) l.path) (take l.i (spec.places l.job)) ≡ None
