use Rattle.std.proofs.Common.{◌≡◌, ℕ, ◌+◌, ◌<◌, length, slice_get, take}
use Rattle.std.specs.List.{Contains}
use Rattle.vs_plane.specs.Lanes.{slot_lane}
use Rattle.vs_code.specs.Calls.{AreCalled, length_of, targets_of}
use Rattle.vs_program.specs.Phases.{calls_of_runs}
use Rattle.vs_program.proofs.compiled.execute_runs.Given as goal

-- the calls of the runs so far were made
abbrev pub invariant-loop-run : goal.invariant-loop-run
invariant-loop-run g l = record {
  applied : (i : ℕ) → i < g.W.Word.LANES
      → AreCalled (calls_of_runs l.calls (take l.run-index l.runs)) (λ slot. slot_lane g.W.Word.lane l.initial.file slot i) (λ slot. slot_lane g.W.Word.lane l.file slot i);
  slots : length l.file ≡ length l.initial.file;
  kept : (slot : ℕ) → ¬ Contains (targets_of (calls_of_runs l.calls l.runs)) slot → slice_get l.file slot ≡ slice_get l.initial.file slot;
  ticked : l.steps ≡ l.initial.steps + length_of (calls_of_runs l.calls (take l.run-index l.runs));
}
