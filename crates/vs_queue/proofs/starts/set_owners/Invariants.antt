use Rattle.std.proofs.Common.{take}
use Rattle.vs_queue.proofs.Owners.{Owned}
use Rattle.vs_queue.proofs.starts.set_owners.Given as goal

abbrev pub invariant-loop-i : goal.invariant-loop-i
invariant-loop-i l = Owned (take l.i l.bits) l.p l.initial.owners l.owners
