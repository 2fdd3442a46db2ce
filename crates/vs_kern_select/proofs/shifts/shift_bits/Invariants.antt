use Rattle.std.proofs.Common.{◌≡◌, ◌≢◌, ℕ, ◌+◌, ◌*◌, ◌<◌, length, get_or, slice_get, drop}
use Rattle.std.specs.List.{list_any}
use Rattle.vs_four.specs.Tables.{is_one}
use Rattle.vs_plane.specs.Kernels.{lane_bits}
use Rattle.vs_plane.specs.Lanes.{pair_lane}
use Rattle.vs_kern_select.specs.Moves.{turns}
use Rattle.vs_kern_select.proofs.ShiftLaws.{moved_so_far}
use Rattle.vs_kern_select.proofs.shifts.shift_bits.Given as goal

-- so far the vector is moved by the first bits of the amount
abbrev pub invariant-loop-bit : goal.invariant-loop-bit
invariant-loop-bit g l = record {
  slots : length l.file ≡ length l.fn.file;
  value : (i : ℕ) → i < g.W.Word.LANES → lane_bits g.W.Word.lane l.file (turns l.left l.to) i
      ≡ moved_so_far l.left (pair_lane g.W.Word.lane l.fill i) (list_any is_one (drop l.moving (lane_bits g.W.Word.lane l.fn.file l.amount i))) (lane_bits g.W.Word.lane l.fn.file l.a i) (lane_bits g.W.Word.lane l.fn.file l.amount i) l.bit;
  kept : (slot : ℕ) → ((k : ℕ) → k < length l.to → get_or l.to k 0 ≢ slot) → slice_get l.file slot ≡ slice_get l.fn.file slot;
  ticked : l.steps ≡ l.fn.steps + (length l.to + l.bit * length l.to);
}
