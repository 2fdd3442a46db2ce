use Rattle.std.proofs.Common.{◌≡◌, map, slice_index, take}
use Rattle.vs_lower.proofs.copies.at_places.Given as goal

abbrev pub invariant-loop-n : goal.invariant-loop-n
invariant-loop-n l = l.found.items ≡ map (slice_index l.list) (take l.n l.places)
