use Rattle.std.proofs.Common.{◌≡◌, map, take, string_bytes}
use Rattle.vs_job.specs.Job as spec
use Rattle.vs_job.proofs.defines.head_of.Given as goal

abbrev pub invariant-loop-value : goal.invariant-loop-value
invariant-loop-value l = string_bytes l.head ≡ spec.head_of (map (λ s. s.now) (take l.value-index l.values))
