use Rattle.vs_misses.proofs.Columns.{AreNamed}
use Rattle.vs_misses.proofs.misses.rows_of.Given as goal

abbrev pub invariant-loop-lane : goal.invariant-loop-lane
invariant-loop-lane l = AreNamed l.drive l.lane l.fn.outputs.items l.rows.items
