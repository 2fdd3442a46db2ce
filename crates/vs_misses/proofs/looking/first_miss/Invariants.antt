use Rattle.std.proofs.Common.{◌≡◌, drop}
use Rattle.vs_engine.specs.Lanes.{state}
use Rattle.vs_misses.specs.Missed.{first_miss}
use Rattle.vs_misses.specs.Rows.{spans_of}
use Rattle.vs_misses.proofs.looking.first_miss.Given as goal

-- the columns that are left have the first miss
abbrev pub invariant-loop-place : goal.invariant-loop-place
invariant-loop-place g l =
    first_miss (spans_of l.rows) (state g.W.Word.lane l.engine l.lane) l.place (drop l.place l.stimulus.columns.expected) (drop l.place l.stimulus.wanted)
    ≡ first_miss (spans_of l.rows) (state g.W.Word.lane l.engine l.lane) 0 l.stimulus.columns.expected l.stimulus.wanted
