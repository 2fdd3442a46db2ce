-- What is kept of misses between calls.
use Rattle.std.specs.Prelude.{◌≡◌, ℕ, ◌<◌, ◌≤◌, ◌^◌, Bool, is_some, All, length}
use Rattle.vs_desk.specs.Places.{most_lanes}
use Rattle.vs_misses.specs.declared.misses.Misses.TheInside.{Inside}
use Rattle.vs_misses.specs.Watch.{Watch, found_at}
use Rattle.vs_misses.specs.Rows.{spans_of, places_of, IsRow}

abbrev pub watch_of : {W : Type 0} → Inside W → Watch
watch_of m = record { outputs = spans_of m.rows.items; places = places_of m.rows.items; found = m.found.items }

-- the word has the lanes in which something was found, where `lane` reads a lane of it, and it has so many
pub record IsMisses {W : Type 0} (lane : W → ℕ → Bool) (width : ℕ) (m : Inside W) : Type 0 where
  pub rows : All (IsRow (length m.found.items)) m.rows.items
  pub missed : (i : ℕ) → i < width → i < length m.found.items → lane m.missed i ≡ is_some (found_at m.found.items i)
  pub few : length m.rows.items < 2 ^ 32
  pub lanes : length m.found.items ≤ most_lanes
  pub wanted : length m.wanted.items ≡ 64
  pub free : length m.free.items ≡ 64
