use Rattle.vs_queue.proofs.Plainly.{ArePlain}
use Rattle.vs_queue.proofs.first.plain_by.Given as goal

abbrev pub invariant-loop-b : goal.invariant-loop-b
invariant-loop-b l = ArePlain l.nets l.driven l.b l.values.items
