use Rattle.std.proofs.Common.{◌≡◌, ◌≤◌, ◌++◌}
use Rattle.vs_vcd.specs.Numerals.{identifier}
use Rattle.vs_vcd.proofs.line.Line.push_identifier.Given as goal

abbrev pub invariant-loop-rest : goal.invariant-loop-rest
invariant-loop-rest l = record { text : l.self ++ identifier l.rest ≡ l.initial.self ++ identifier l.number; smaller : l.rest ≤ l.number }

abbrev pub decreases-loop-rest : goal.decreases-loop-rest
decreases-loop-rest l = l.rest
