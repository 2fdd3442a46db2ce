use Rattle.std.proofs.Common.{◌≡◌, ℕ, ◌<◌, not, take}
use Rattle.vs_design.specs.Values.{read}
use Rattle.vs_program.specs.Compiled.{span_bits}
use Rattle.vs_engine.specs.Lanes.{state}
use Rattle.vs_misses.specs.Missed.{are_met}
use Rattle.vs_misses.specs.Rows.{digits_in}
use Rattle.vs_misses.proofs.comparing.unmet.Given as goal

-- the lanes in which one of the first digits isn't met
abbrev pub invariant-loop-n : goal.invariant-loop-n
invariant-loop-n g l = (i : ℕ) → i < g.W.Word.LANES → g.W.Word.lane l.lanes i
    ≡ not (are_met (take l.n (digits_in g.W.Word.lane l.wanted l.free i)) (take l.n (read (state g.W.Word.lane l.engine i) (span_bits l.span))))
