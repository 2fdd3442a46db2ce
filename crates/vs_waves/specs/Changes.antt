-- What a slot changed, in each lane.
use Rattle.std.specs.Prelude.{ℕ, ◌+◌, ◌*◌, ◌<◌, ◌≤◌, All, Bool, if◌then◌else◌, List, [], ◌∷◌, length, slice_get, slice_index_or, Option, None, Some, vec_capacity}
use Rattle.std.specs.List.{flat_map}
use Rattle.vs_four.specs.Logic.{BitList}
use Rattle.vs_design.specs.Values.{count_from}
use Rattle.vs_plane.specs.declared.pairs.Pair.{Pair}
use Rattle.vs_plane.specs.Lanes.{pair_lane}
use Rattle.vs_vcd.specs.Values.{value_line}
use Rattle.vs_waves.specs.declared.changes.Change.{Change}
use Rattle.vs_waves.specs.declared.changes.Changes.{Changes}

-- the value of a signal in lane i: its bit, or what stands in its row
abbrev pub change_value : {W : Type 0} → (W → ℕ → Bool) → ℕ → BitList → Option (Pair W) → BitList
change_value lane i value None = value
change_value lane i value (Some pair) = pair_lane lane pair i ∷ []

-- the line of a signal's value in lane i, where it changed there
abbrev pub change_line : {W : Type 0} → (W → ℕ → Bool) → ℕ → BitList → Change W → List ℕ
change_line lane i value c = if lane c.lanes i then value_line c.signal (change_value lane i value c.bit) else []

-- the line of the n-th change, if any; a row has `lanes` values
abbrev pub line_at : {W : Type 0} → (W → ℕ → Bool) → ℕ → Changes W → ℕ → ℕ → List ℕ
line_at lane lanes c i n = elim (slice_get c.changed.items n) [ None ↦ [] | Some change ↦ change_line lane i (slice_index_or c.values.items (n * lanes + i) []) change ]

-- the lines of all changes, in lane i
unfoldable pub changes_text : {W : Type 0} → (W → ℕ → Bool) → ℕ → Changes W → ℕ → List ℕ
changes_text lane lanes c i = flat_map (line_at lane lanes c i) (count_from 0 (length c.changed.items))

-- The changes are of signals whose numbers are below this one, and there is room for a change and a row of each.
pub record AreOf {W : Type 0} (lanes signals : ℕ) (c : Changes W) : Type 0 where
  pub capacity : signals ≤ vec_capacity c.changed
  pub values : signals * lanes ≤ length c.values.items
  pub count : length c.changed.items ≤ signals
  pub named : All (λ (change : Change W). change.signal < signals) c.changed.items
