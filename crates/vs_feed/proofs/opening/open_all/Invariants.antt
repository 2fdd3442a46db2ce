use Rattle.std.proofs.Common.{◌≡◌, ℕ, ◌<◌, length, take, IsTrue}
use Rattle.vs_feed.specs.Lanes.{lane_at, OtherPlacesKept}
use Rattle.vs_feed.specs.Opened.{texts, path_at, with_lanes, HaveHeaders, IsOpened}
use Rattle.vs_feed.proofs.opening.open_all.Given as goal

abbrev pub invariant-loop-path : goal.invariant-loop-path
invariant-loop-path g l = record {
  lanes : length l.stimuli.items ≡ length l.yielded;
  each : (i : ℕ) → i < length l.stimuli.items → IsOpened g.D.Desk.tells l.ports (g.D.Desk.told l.initial.desk).contents (g.D.Desk.told l.desk).contents (path_at (texts l.fn.paths.items) i) i (lane_at l.stimuli.items i);
  headers : IsTrue g.D.Desk.tells → HaveHeaders l.ports (g.D.Desk.told l.initial.desk).contents.files (texts l.fn.paths.items) (length l.stimuli.items);
  attached : (g.D.Desk.told l.desk).register ≡ with_lanes (g.D.Desk.told l.initial.desk).register (take (length l.stimuli.items) (texts l.fn.paths.items));
  others : IsTrue g.D.Desk.tells → OtherPlacesKept (length l.fn.paths.items) (g.D.Desk.told l.initial.desk).contents (g.D.Desk.told l.desk).contents;
}
