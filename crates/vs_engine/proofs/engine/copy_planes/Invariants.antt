use Rattle.std.proofs.Common.{◌≡◌, ℕ, ◌+◌, ◌<◌, length}
use Rattle.vs_plane.specs.Lanes.{slot_lane}
use Rattle.vs_engine.proofs.engine.copy_planes.Given as goal

-- the first slots are copied
abbrev pub invariant-loop-k : goal.invariant-loop-k
invariant-loop-k g l = record {
  count : length l.out ≡ length l.initial.out;
  planes : (j i : ℕ) → j < l.k → slot_lane g.W.Word.lane l.out j i ≡ slot_lane g.W.Word.lane l.file (l.fn.first + j) i;
}
