-- The stimuli of all lanes, by lane.
use Rattle.std.specs.Prelude.{◌≡◌, ℕ, ◌<◌, ◌≤◌, Bool, true, false, List, [], length, slice_index_or}
use Rattle.std.specs.List.{list_any}
use Rattle.vs_desk.specs.declared.desk.Way.TheVariants.{Read}
use Rattle.vs_desk.specs.Desk.{Register, Contents, IsAttached}
use Rattle.vs_desk.specs.Places.{stimulus_place, most_lanes}
use Rattle.vs_stim.specs.Known.{Known}
use Rattle.vs_stim.specs.Reading.{first_place}
use Rattle.vs_stim.specs.Row.{sizes}

-- a stimulus that has ended
abbrev pub ended : Known
ended = record { lane = 0; live = false; columns = record { inputs = []; expected = [] }; count = 0; line = 0; vector = []; wanted = []; at = first_place; pending = [] }

-- the stimulus of lane i; past the last lane, one that has ended
abbrev pub lane_at : List Known → ℕ → Known
lane_at ks i = slice_index_or ks i ended

-- There are no more stimuli than lanes, the i-th is that of lane i, and all drive inputs of the same lengths.
pub record AreLanes (ks : List Known) : Type 0 where
  pub few : length ks ≤ most_lanes
  pub numbered : (i : ℕ) → i < length ks → (lane_at ks i).lane ≡ i
  pub alike : (i : ℕ) → i < length ks → sizes (lane_at ks i).vector ≡ sizes (lane_at ks 0).vector

-- some lane has a vector
abbrev pub some_live : List Known → Bool
some_live ks = list_any (λ k. k.live) ks

-- every lane has ended
pub record AllEnded (ks : List Known) : Type 0 where
  pub each : (i : ℕ) → (lane_at ks i).live ≡ false

-- the place of each live lane can be read
pub record AreAttached (register : Register) (ks : List Known) : Type 0 where
  pub each : (i : ℕ) → (lane_at ks i).live ≡ true → IsAttached register (stimulus_place i) Read

-- nothing changed but what is left to take at the places of this many lanes
pub record OtherPlacesKept (lanes : ℕ) (old new : Contents) : Type 0 where
  pub files : new.files ≡ old.files
  pub put : new.put ≡ old.put
  pub before : (p : ℕ) → p < stimulus_place 0 → new.left p ≡ old.left p
  pub behind : (p : ℕ) → stimulus_place lanes ≤ p → new.left p ≡ old.left p
