-- What contracts see of a `Misses`.
use Rattle.std.specs.Prelude.{◌≡◌, ℕ, ◌<◌, true, List, [], length, map, slice_get, slice_index_or, Option, Some, None, All}
use Rattle.vs_program.specs.declared.compiled.Span.{Span}
use Rattle.vs_stim.specs.declared.input.Expected.{Expected}
use Rattle.vs_stim.specs.Wanted.{wanted_sizes}
use Rattle.vs_stim.specs.Wants.{expected_lengths, IsExpectedOf, is_each_once}
use Rattle.vs_stim.specs.Known.{Known}
use Rattle.vs_feed.specs.Lanes.{lane_at}
use Rattle.vs_misses.specs.Missed.{Found}

-- the bits of each output, the place of its column in the header of each lane, output by output and lane by lane, and what was found in each lane
pub record Watch : Type 0 where
  pub outputs : List Span
  pub places : List (List (Option ℕ))
  pub found : List (Option Found)

-- what was found in a lane
abbrev pub found_at : List (Option Found) → ℕ → Option Found
found_at found i = slice_index_or found i None

-- the place in lane i; none past the last lane
abbrev pub place_in : List (Option ℕ) → ℕ → Option ℕ
place_in places i = slice_index_or places i None

-- the place of an output's column in the header of lane i
abbrev pub place_of : List (List (Option ℕ)) → ℕ → ℕ → Option ℕ
place_of places output i = place_in (slice_index_or places output []) i

-- ---- what is wanted fits the outputs

-- the outputs' lengths
abbrev pub span_lengths : List Span → List ℕ
span_lengths outputs = map (λ s. s.length) outputs

-- What a lane's stimulus wants is of these outputs, of each at most once, and it wants as many digits as the output has bits.
pub record Fits (outputs : List Span) (k : Known) : Type 0 where
  pub columns : All (IsExpectedOf (span_lengths outputs)) k.columns.expected
  pub once : is_each_once k.columns.expected ≡ true
  pub sizes : wanted_sizes k.wanted ≡ expected_lengths k.columns.expected

pub record AllFit (outputs : List Span) (ks : List Known) : Type 0 where
  pub each : (i : ℕ) → i < length ks → Fits outputs (lane_at ks i)

-- ---- the table

-- the columns of each lane's header
abbrev pub named : List Known → List (List Expected)
named ks = map (λ k. k.columns.expected) ks

-- the columns of lane i; past the last lane, none
abbrev pub columns_at : List (List Expected) → ℕ → List Expected
columns_at columns i = slice_index_or columns i []

-- the places in lane i are those of these columns
pub record ArePlaces (places : List (List (Option ℕ))) (i : ℕ) (es : List Expected) : Type 0 where
  -- each column has its place
  pub each : (c : ℕ) (e : Expected) → slice_get es c ≡ Some e → place_of places e.output i ≡ Some c
  -- each place is that of a column of its output
  pub only : (output c : ℕ) → place_of places output i ≡ Some c → (e : Expected) × (slice_get es c ≡ Some e) × (e.output ≡ output)

-- In each lane the places are those of the columns that its header has.
pub record HasColumns (w : Watch) (columns : List (List Expected)) : Type 0 where
  pub lanes : length w.found ≡ length columns
  pub places : (i : ℕ) → ArePlaces w.places i (columns_at columns i)
