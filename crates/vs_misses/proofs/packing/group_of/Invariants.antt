use Rattle.std.proofs.Common.{◌≡◌, length}
use Rattle.vs_misses.proofs.Packs.{AreGathered}
use Rattle.vs_misses.proofs.packing.group_of.Given as goal

abbrev pub invariant-loop-i : goal.invariant-loop-i
invariant-loop-i l = record {
  value_long : length l.value ≡ 64;
  unknown_long : length l.unknown ≡ 64;
  any_long : length l.any ≡ 64;
  gathered : AreGathered l.drive l.places l.k l.i l.value l.unknown l.any;
}
