use Rattle.std.proofs.Common.{◌≡◌, ◌≤◌, length}
use Rattle.vs_waves.specs.Slots.{AreTails}
use Rattle.vs_waves.proofs.round.Round.new.Given as goal

abbrev pub invariant-loop-n : goal.invariant-loop-n
invariant-loop-n g l = record {
  count : length l.tails.items ≡ l.n;
  room : l.count ≤ l.tails.cap;
  tails : AreTails l.tails.items;
}
