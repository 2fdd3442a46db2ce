use Rattle.vs_queue.proofs.Flags.{AreRun}
use Rattle.vs_queue.proofs.first.flag_run.Given as goal

abbrev pub invariant-loop-k : goal.invariant-loop-k
invariant-loop-k l = AreRun l.first l.initial.flags.items l.flags.items l.k
