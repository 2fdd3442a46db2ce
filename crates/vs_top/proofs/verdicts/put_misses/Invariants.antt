use Rattle.std.proofs.Common.{take, Ok}
use Rattle.vs_desk.specs.Desk.{PutsAll}
use Rattle.vs_top.specs.Verdicts.{misses_text}
use Rattle.vs_top.proofs.verdicts.put_misses.Given as goal

abbrev pub invariant-loop-lane : goal.invariant-loop-lane
invariant-loop-lane g l = PutsAll {V = Unit {0}} {E = Unit {0}} (g.D.Desk.told l.initial.desk) (g.D.Desk.told l.desk) 0 (misses_text (take l.lane l.misses.found)) (Ok tt)
