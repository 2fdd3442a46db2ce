use Rattle.std.proofs.Common.{◌≡◌, ◌<◌, ◌≤◌, ◌-◌, List, All, IsTrue, length, take}
use Rattle.vs_four.specs.declared.Bit4.{Bit4}
use Rattle.vs_feed.specs.Lanes.{AreAttached, OtherPlacesKept, lane_at}
use Rattle.vs_stim.specs.Row.{sizes}
use Rattle.vs_rounds.specs.Lanes.{Run, HaveNext, reading_of}
use Rattle.vs_ordered.proofs.reading.read_vectors.Given as goal

abbrev pub invariant-reads : goal.invariant-reads
invariant-reads g l = record {
  lone : length l.drive ≡ 1;
  lane : 0 < length l.vectors.items → (lane_at l.drive 0).lane ≡ 0;
  attached : AreAttached (g.D.Desk.told l.desk).register l.drive;
  few : length l.vectors.items ≤ 16777217;
  long : sizes (lane_at l.drive 0).vector ≡ sizes (lane_at l.initial.drive 0).vector;
  sized : All (λ (vector : List (List Bit4)). sizes vector ≡ sizes (lane_at l.initial.drive 0).vector) l.vectors.items;
  same : (g.D.Desk.told l.desk).register ≡ (g.D.Desk.told l.initial.desk).register;
  others : IsTrue g.D.Desk.tells → OtherPlacesKept 1 (g.D.Desk.told l.initial.desk).contents (g.D.Desk.told l.desk).contents;
  next : IsTrue g.D.Desk.tells → (run : Run) → HaveNext run 0 l.initial.drive (g.D.Desk.told l.initial.desk).contents → HaveNext run (length l.vectors.items) l.drive (g.D.Desk.told l.desk).contents;
  taken : IsTrue g.D.Desk.tells → (run : Run) → HaveNext run 0 l.initial.drive (g.D.Desk.told l.initial.desk).contents → l.vectors.items ≡ take (length l.vectors.items) (reading_of run 0).vectors;
}

abbrev pub decreases-reads : goal.decreases-reads
decreases-reads g l = 16777217 - length l.vectors.items
