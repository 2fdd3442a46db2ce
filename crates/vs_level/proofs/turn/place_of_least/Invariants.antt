use Rattle.std.proofs.Common.{ℕ, ◌<◌, ◌≤◌, length, slice_index}
use Rattle.vs_level.proofs.turn.place_of_least.Given as goal

abbrev pub invariant-loop-i : goal.invariant-loop-i
invariant-loop-i l = (l.best < length l.numbers) × ((k : ℕ) → k < l.i → slice_index l.numbers l.best ≤ slice_index l.numbers k)
