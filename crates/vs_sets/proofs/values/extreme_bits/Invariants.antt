use Rattle.std.proofs.Common.{◌≡◌, ◌++◌, drop, take, length}
use Rattle.vs_sets.specs.Extremes.{extreme_bits}
use Rattle.vs_sets.proofs.values.extreme_bits.Given as goal

abbrev pub invariant-loop-n : goal.invariant-loop-n
invariant-loop-n l = record {
  size : length l.bits ≡ 64;
  made : take l.n l.bits ++ extreme_bits l.greatest l.signed (drop l.n l.sets) ≡ extreme_bits l.greatest l.signed l.sets;
}
