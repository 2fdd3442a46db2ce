use Rattle.std.proofs.Common.{◌≡◌, length, take}
use Rattle.vs_zero.proofs.constants.listed.Given as goal

abbrev pub invariant-loop-k : goal.invariant-loop-k
invariant-loop-k l = record {
  size : length l.list ≡ 64;
  same : take l.k l.list ≡ take l.k l.value;
}
