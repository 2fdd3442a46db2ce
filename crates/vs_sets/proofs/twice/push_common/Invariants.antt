use Rattle.std.proofs.Common.{drop}
use Rattle.vs_sets.proofs.TwiceSteps.{AreLeft}
use Rattle.vs_sets.proofs.twice.push_common.Given as goal

abbrev pub invariant-loop-bit : goal.invariant-loop-bit
invariant-loop-bit l = AreLeft l.some (drop l.bit-index l.others) l.others l.out.items l.initial.out.items
