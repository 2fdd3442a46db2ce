use Rattle.std.proofs.Common.{◌≡◌, ◌-◌, ◌++◌, false, length, replicate, take}
use Rattle.vs_events.proofs.beginning.numbers_of.Given as goal

abbrev pub invariant-loop-k : goal.invariant-loop-k
invariant-loop-k l = l.numbers ≡ take l.k l.flags ++ replicate (length l.flags - l.k) false
