use Rattle.std.proofs.Common.{take}
use Rattle.vs_sets.proofs.FlagSteps.{Marked}
use Rattle.vs_sets.proofs.flags.mark.Given as goal

abbrev pub invariant-loop-i : goal.invariant-loop-i
invariant-loop-i l = Marked (take l.i l.bits) l.value l.initial.flags l.flags
