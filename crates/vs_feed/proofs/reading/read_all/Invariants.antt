use Rattle.std.proofs.Common.{◌≡◌, length, IsTrue}
use Rattle.vs_feed.specs.Lanes.{AreLanes, OtherPlacesKept}
use Rattle.vs_feed.specs.Reading.{AreRead, SameSizes}
use Rattle.vs_feed.proofs.reading.read_all.Given as goal

abbrev pub invariant-loop-lane : goal.invariant-loop-lane
invariant-loop-lane g l = record {
  lanes : AreLanes l.stimuli;
  sizes : SameSizes l.initial.stimuli l.stimuli;
  register : (g.D.Desk.told l.desk).register ≡ (g.D.Desk.told l.initial.desk).register;
  read : AreRead g.D.Desk.tells l.lane l.lane (g.D.Desk.told l.initial.desk).contents (g.D.Desk.told l.desk).contents l.initial.stimuli l.stimuli;
  others : IsTrue g.D.Desk.tells → OtherPlacesKept (length l.initial.stimuli) (g.D.Desk.told l.initial.desk).contents (g.D.Desk.told l.desk).contents;
}
