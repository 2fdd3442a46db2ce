use Rattle.std.proofs.Common.{◌≡◌, take, length}
use Rattle.vs_interpret.proofs.targets.spread.Given as goal

abbrev pub invariant-loop-n : goal.invariant-loop-n
invariant-loop-n l = (length l.all ≡ 64) × (take l.n l.all ≡ take l.n l.value)
