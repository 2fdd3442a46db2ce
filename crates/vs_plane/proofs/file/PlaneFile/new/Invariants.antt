use Rattle.std.proofs.Common.{◌≡◌, ℕ, ◌<◌, length, slice_get, Some}
use Rattle.vs_plane.specs.Lanes.{slot_lane}
use Rattle.vs_plane.proofs.file.PlaneFile.new.Given as goal

abbrev pub invariant-loop-bit : goal.invariant-loop-bit
invariant-loop-bit g l = record {
  long : length l.slots.items ≡ l.bit-index;
  bits : (slot i : ℕ) → slot < l.bit-index → i < g.W.Word.LANES → slice_get l.fn.initial slot ≡ Some (slot_lane g.W.Word.lane l.slots.items slot i);
}
