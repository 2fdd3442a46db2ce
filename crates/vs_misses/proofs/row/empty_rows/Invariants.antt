use Rattle.std.proofs.Common.{◌≡◌, take}
use Rattle.std.specs.Prelude.{All}
use Rattle.vs_misses.specs.Rows.{spans_of, IsEmptyRow}
use Rattle.vs_misses.proofs.row.empty_rows.Given as goal

abbrev pub invariant-loop-span : goal.invariant-loop-span
invariant-loop-span l = record {
  spans : spans_of l.rows.items ≡ take l.span-index l.span-items;
  none : All (IsEmptyRow l.lanes) l.rows.items;
}
