use Rattle.std.proofs.Common.{◌≡◌, ◌+◌, length, map, take}
use Rattle.vs_job.specs.Job as spec
use Rattle.vs_job.proofs.defines.are_short.Given as goal

abbrev pub invariant-loop-value : goal.invariant-loop-value
invariant-loop-value l = l.room + length (spec.head_of (map (λ s. s.now) (take l.value-index l.values))) ≡ 65536
