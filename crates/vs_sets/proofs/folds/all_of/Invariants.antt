use Rattle.std.proofs.Common.{◌≡◌, ◌≤◌, length, drop}
use Rattle.vs_design.specs.Sets.{all_of}
use Rattle.vs_sets.proofs.folds.all_of.Given as goal

abbrev pub invariant-loop-n : goal.invariant-loop-n
invariant-loop-n l = record { within : l.n ≤ length l.sets; rest : l.all ≡ all_of (drop l.n l.sets) }

abbrev pub decreases-loop-n : goal.decreases-loop-n
decreases-loop-n l = l.n
