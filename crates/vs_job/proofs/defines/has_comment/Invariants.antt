use Rattle.std.proofs.Common.{◌≡◌, length}
use Rattle.vs_job.specs.Job as spec
use Rattle.vs_job.proofs.defines.has_comment.Given as goal

abbrev pub invariant-loop-first : goal.invariant-loop-first
invariant-loop-first l = spec.has_comment l.left ≡ spec.has_comment l.fn.text

abbrev pub decreases-loop-first : goal.decreases-loop-first
decreases-loop-first l = length l.left
