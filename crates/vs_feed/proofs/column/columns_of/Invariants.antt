use Rattle.std.proofs.Common.{◌≡◌, length}
use Rattle.vs_feed.proofs.Packs.{AreRead}
use Rattle.vs_feed.proofs.column.columns_of.Given as goal

abbrev pub invariant-loop-i : goal.invariant-loop-i
invariant-loop-i l = record {
  value_long : length l.value ≡ 64;
  unknown_long : length l.unknown ≡ 64;
  read : AreRead l.stimuli l.input l.k l.i l.value l.unknown;
}
