use Rattle.std.proofs.Common.{◌≡◌, ◌≤◌, take, is_some}
use Rattle.std.specs.List.{count_by}
use Rattle.vs_misses.proofs.misses.Misses.count.Given as goal

abbrev pub invariant-loop-found : goal.invariant-loop-found
invariant-loop-found g l = record {
  count : l.count ≡ count_by is_some (take l.found-index l.found-items);
  few : l.count ≤ l.found-index;
}
