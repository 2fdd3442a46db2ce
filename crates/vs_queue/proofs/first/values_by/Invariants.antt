use Rattle.vs_queue.proofs.Firsts.{AreBegun}
use Rattle.vs_queue.proofs.first.values_by.Given as goal

abbrev pub invariant-loop-b : goal.invariant-loop-b
invariant-loop-b l = AreBegun l.nets l.driven l.order l.b l.values.items l.seed
