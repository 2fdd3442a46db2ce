use Rattle.vs_misses.proofs.Columns.{AreSet}
use Rattle.vs_misses.proofs.row.name_columns.Given as goal

abbrev pub invariant-loop-place : goal.invariant-loop-place
invariant-loop-place l = AreSet l.initial.rows l.lane l.columns l.place l.rows
