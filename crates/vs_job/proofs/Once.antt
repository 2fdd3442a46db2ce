-- An option that is given once at most.
use Rattle.std.proofs.Common.{◌≡◌, Option, None, Some, refl}
use Rattle.vs_job.specs.Job.{Text, at_most_once}
use Rattle.vs_job.specs.Lines.{values}

pub at_most_once_values : (o : Option Text) → at_most_once (values o) ≡ Some o
at_most_once_values None = refl
at_most_once_values (Some value) = refl
