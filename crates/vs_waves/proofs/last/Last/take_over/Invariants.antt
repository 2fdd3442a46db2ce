use Rattle.std.proofs.Common.{◌≡◌, ℕ, ◌<◌, ◌≤◌, length}
use Rattle.vs_engine.specs.Lanes.{state}
use Rattle.vs_plane.specs.Lanes.{slot_lane}
use Rattle.vs_vcd.specs.Texts.{value_lines}
use Rattle.vs_waves.specs.Changes.{changes_text, AreOf}
use Rattle.vs_waves.specs.Rounds.{values_in}
use Rattle.vs_waves.proofs.Changing.{places}
use Rattle.vs_waves.proofs.Picking.{spans_at}
use Rattle.vs_waves.proofs.Spanning.{AreTaken}
use Rattle.vs_waves.proofs.last.Last.take_over.Given as goal

-- the planes of the first signals are taken over, and the changes are theirs
abbrev pub invariant-loop-n : goal.invariant-loop-n
invariant-loop-n g l = record {
  spans : l.self-inside.spans ≡ l.initial.self-inside.spans;
  numbers : l.self-inside.numbers ≡ l.initial.self-inside.numbers;
  standing : l.self-inside.places ≡ l.initial.self-inside.places;
  signals : l.self-inside.signals ≡ l.initial.self-inside.signals;
  taken : AreTaken g.W.Word.lane g.W.Word.LANES (state g.W.Word.lane l.engine) (spans_at l.initial.self-inside.places.items l.engine.program.signals) l.initial.self-inside.spans.items l.initial.self-inside.planes.items l.self-inside.planes.items l.n;
  text : (i : ℕ) → i < g.W.Word.LANES → changes_text g.W.Word.lane g.W.Word.LANES l.changes i
      ≡ value_lines l.initial.self-inside.numbers.items (values_in (state g.W.Word.lane l.engine i) (spans_at l.initial.self-inside.places.items l.engine.program.signals))
      (places l.all (values_in (λ b. slot_lane g.W.Word.lane l.initial.self-inside.planes.items b i) l.initial.self-inside.spans.items) (values_in (state g.W.Word.lane l.engine i) (spans_at l.initial.self-inside.places.items l.engine.program.signals)) l.n);
  count : length l.changes.changed.items ≤ l.n;
  room : AreOf g.W.Word.LANES l.initial.self-inside.signals l.changes;
}
