use Rattle.std.proofs.Common.{◌≡◌, drop}
use Rattle.vs_stim.specs.Vectors.{vector_known}
use Rattle.vs_stim.proofs.vectors.are_known.Given as goal

-- the values so far are known
abbrev pub invariant-loop-value : goal.invariant-loop-value
invariant-loop-value l = vector_known (drop l.value-index l.values) ≡ vector_known l.values
