-- An output in all lanes: what it is wanted to be, and where it isn't.
use Rattle.std.specs.Prelude.{◌≡◌, ◌⊎◌, ℕ, ◌+◌, ◌<◌, ◌≤◌, Bool, true, false, not, List, [], length, map, replicate, slice_index_or, Option, Some, None}
use Rattle.vs_four.specs.declared.Bit4.{Bit4}
use Rattle.vs_four.specs.Logic.{map2}
use Rattle.vs_four.specs.Tables.{is_one}
use Rattle.vs_net.specs.Network.{State}
use Rattle.vs_design.specs.Values.{read}
use Rattle.vs_plane.specs.declared.pairs.Pair.{Pair}
use Rattle.vs_plane.specs.Lanes.{pair_lane}
use Rattle.vs_program.specs.declared.compiled.Span.{Span}
use Rattle.vs_program.specs.Compiled.{span_bits}
use Rattle.vs_stim.specs.declared.wanted.Digit.{Digit}
use Rattle.vs_stim.specs.declared.wanted.Digit.TheVariants.{Exactly, Any}
use Rattle.vs_stim.specs.Known.{Known}
use Rattle.vs_feed.specs.Lanes.{lane_at}
use Rattle.vs_misses.specs.declared.row.Row.{Row}
use Rattle.vs_misses.specs.Missed.{are_met}
use Rattle.vs_misses.specs.Watch.{place_in}

-- so many digits that stand for any bit
abbrev pub any_bits : ℕ → List Digit
any_bits count = replicate count Any

-- the digits of the column at this place; any bits where there is none
abbrev pub digits_at : ℕ → List (List Digit) → Option ℕ → List Digit
digits_at count wanted None = any_bits count
digits_at count wanted (Some c) = slice_index_or wanted c []

-- what an output of so many bits is wanted to be in lane i: any bits where the lane has no vector, or its header doesn't name the output
abbrev pub wanted_in : ℕ → List (Option ℕ) → Known → ℕ → List Digit
wanted_in count places k i = elim k.live [ true ↦ digits_at count k.wanted (place_in places i) | false ↦ any_bits count ]

-- whether an output isn't as it is wanted in lane i
abbrev pub is_unmet : Span → List (Option ℕ) → Known → State → ℕ → Bool
is_unmet span places k s i = not (are_met (wanted_in span.length places k i) (read s (span_bits span)))

-- the column at a lane's place has digits, this many
pub record HaveDigits (count : ℕ) (places : List (Option ℕ)) (ks : List Known) : Type 0 where
  pub within : (i c : ℕ) → i < length ks → place_in places i ≡ Some c → c < length (lane_at ks i).wanted
  pub size : (i c : ℕ) → i < length ks → place_in places i ≡ Some c → length (slice_index_or (lane_at ks i).wanted c []) ≡ count

-- ---- digits as planes

-- the digit of a bit, or one that stands for any where this bit is 1
abbrev pub digit_of : Bit4 → Bit4 → Digit
digit_of b free = elim (is_one free) [ true ↦ Any | false ↦ Exactly b ]

-- the digits that lane i has in these pairs, where the others have 1 for a digit that stands for any bit, and `lane` reads a lane of a word
abbrev pub digits_in : {W : Type 0} → (W → ℕ → Bool) → List (Pair W) → List (Pair W) → ℕ → List Digit
digits_in lane wanted free i = map2 digit_of (map (λ p. pair_lane lane p i) wanted) (map (λ p. pair_lane lane p i) free)

-- the word has the same bit everywhere
abbrev pub IsUniform : ℕ → Type 0
IsUniform word = (word ≡ 0) ⊎ (word ≡ 18446744073709551615)

-- ---- rows

abbrev pub spans_of : List Row → List Span
spans_of rows = map (λ r. r.span) rows

abbrev pub places_of : List Row → List (List (Option ℕ))
places_of rows = map (λ r. r.places.items) rows

-- whether the output of a row isn't as it is wanted in lane i
abbrev pub row_unmet : Known → State → ℕ → Row → Bool
row_unmet k s i r = is_unmet r.span r.places.items k s i

-- the row has a place for this lane
abbrev pub HasLane : ℕ → Row → Type 0
HasLane lane r = lane < length r.places.items

-- the row has a place for each lane, and where no lane names its output all are none
pub record IsRow (lanes : ℕ) (r : Row) : Type 0 where
  pub long : length r.places.items ≡ lanes
  pub unnamed : r.is_named ≡ false → (i : ℕ) → place_in r.places.items i ≡ None

-- no lane names its output
pub record IsEmptyRow (lanes : ℕ) (r : Row) : Type 0 where
  pub long : length r.places.items ≡ lanes
  pub none : (i : ℕ) → place_in r.places.items i ≡ None

-- the row's output has 1 to 64 bits among the first so many, and its columns have as many digits
pub record IsComparable (bits : ℕ) (ks : List Known) (r : Row) : Type 0 where
  pub some : 1 ≤ r.span.length
  pub short : r.span.length ≤ 64
  pub inside : r.span.first + r.span.length ≤ bits
  pub digits : HaveDigits r.span.length r.places.items ks
