use Rattle.std.proofs.Common.{◌≡◌, take, filter, length}
use Rattle.std.specs.List.{range_with_len}
use Rattle.vs_rows.specs.Fields as spec
use Rattle.vs_rows.proofs.fields.starts.Given as goal

abbrev pub invariant-loop-at : goal.invariant-loop-at
invariant-loop-at l = l.starts.items ≡ filter (spec.field_begins l.line) (take l.at (range_with_len 0 (length l.line)))
