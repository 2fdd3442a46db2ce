use Rattle.vs_misses.proofs.Looks.{AreLooked}
use Rattle.vs_engine.specs.Lanes.{state}
use Rattle.vs_misses.specs.Rows.{spans_of}
use Rattle.vs_misses.proofs.looking.look.Given as goal

abbrev pub invariant-loop-lane : goal.invariant-loop-lane
invariant-loop-lane g l = AreLooked (spans_of l.rows) (state g.W.Word.lane l.engine) l.drive (g.W.Word.lane l.lanes) l.lane l.initial.found l.found
