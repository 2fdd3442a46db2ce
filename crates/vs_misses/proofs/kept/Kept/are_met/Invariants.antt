use Rattle.std.proofs.Common.{◌≡◌, true, take}
use Rattle.vs_misses.specs.Missed.{are_met}
use Rattle.vs_misses.proofs.kept.Kept.are_met.Given as goal

abbrev pub invariant-loop-n : goal.invariant-loop-n
invariant-loop-n l = are_met (take l.n l.self) (take l.n l.bits) ≡ true
