use Rattle.std.proofs.Common.{take, Ok}
use Rattle.vs_desk.specs.Desk.{PutsAll}
use Rattle.vs_excerpt.specs.Escapes.{escaped}
use Rattle.vs_explanation.proofs.puts.put_each_escaped.Given as goal

abbrev pub invariant-loop-byte : goal.invariant-loop-byte
invariant-loop-byte g l = PutsAll {V = Unit {0}} {E = Unit {0}} (g.D.Desk.told l.initial.desk) (g.D.Desk.told l.desk) 0 (escaped (take l.byte-index l.bytes)) (Ok tt)
