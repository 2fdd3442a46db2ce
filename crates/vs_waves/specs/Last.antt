-- The values that signals had at the end of a slot, by the planes of their bits.
use Rattle.std.specs.Prelude.{◌≡◌, ℕ, ◌+◌, ◌<◌, ◌≤◌, ◌^◌, Bool, All, List, length, slice_get, Some}
use Rattle.vs_four.specs.Logic.{BitList}
use Rattle.vs_plane.specs.declared.pairs.Pair.{Pair}
use Rattle.vs_plane.specs.Lanes.{slot_lane}
use Rattle.vs_program.specs.declared.compiled.Span.{Span}
use Rattle.vs_waves.specs.Rounds.{values_in}

-- the planes of bits, and which of them each signal has whose values are written, its number, its place among all that have lines, and how many signals there are in all
pub record LastPlanes (W : Type 0) : Type 0 where
  pub spans : List Span
  pub numbers : List ℕ
  pub places : List ℕ
  pub signals : ℕ
  pub planes : List (Pair W)

-- the signals have so many bits in all, each some of its own, in the signals' order
pub record AreApart (spans : List Span) (bits : ℕ) : Type 0 where
  pub within : (n : ℕ) (s : Span) → slice_get spans n ≡ Some s → s.first + s.length ≤ bits
  pub apart : (m n : ℕ) (s t : Span) → m < n → slice_get spans m ≡ Some s → slice_get spans n ≡ Some t → s.first + s.length ≤ t.first
  pub few : length spans < 2 ^ 32

-- each of so many signals has its number, which is one of these many
pub record AreNumbered (spans signals : ℕ) (numbers : List ℕ) : Type 0 where
  pub long : length numbers ≡ spans
  pub few : spans ≤ signals
  pub below : All (λ n. n < signals) numbers

pub record AreLaid (spans : List Span) (numbers places : List ℕ) (signals bits : ℕ) : Type 0 where
  pub apart : AreApart spans bits
  pub placed : length places ≡ length spans
  pub numbered : AreNumbered (length spans) signals numbers

-- the values in lane i, by signal, where `lane` reads a lane of a word
abbrev pub last_values : {W : Type 0} → (W → ℕ → Bool) → LastPlanes W → ℕ → List BitList
last_values lane last i = values_in (λ b. slot_lane lane last.planes b i) last.spans
