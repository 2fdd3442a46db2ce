use Rattle.std.proofs.Common.{◌≡◌, ℕ, ◌<◌, take}
use Rattle.std.specs.List.{list_any}
use Rattle.vs_engine.specs.Lanes.{state}
use Rattle.vs_feed.specs.Lanes.{lane_at}
use Rattle.vs_misses.specs.Rows.{row_unmet}
use Rattle.vs_misses.proofs.comparing.unmet_of_rows.Given as goal

-- the lanes in which one of the first rows' outputs isn't as it is wanted
abbrev pub invariant-loop-row : goal.invariant-loop-row
invariant-loop-row g l = (i : ℕ) → i < g.W.Word.LANES → g.W.Word.lane l.lanes i ≡ list_any (row_unmet (lane_at l.drive i) (state g.W.Word.lane l.engine i) i) (take l.row-index l.rows)
