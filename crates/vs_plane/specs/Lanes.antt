-- The lanes of a pair of words, and of a file of such pairs: a four-valued bit for each lane number.
use Rattle.std.specs.Prelude.{◌≡◌, ℕ, Bool, true, false, List, slice_get, Option, Some, None}
use Rattle.vs_four.specs.declared.Bit4.{Bit4}
use Rattle.vs_four.specs.declared.Bit4.TheVariants.{Zero, One, X, Z}
use Rattle.vs_plane.specs.declared.pairs.Pair.{Pair}

-- a four-valued bit by its bit of the value plane and its bit of the unknown plane,
-- as the standard encodes a vector's bits (IEEE 1364-2005, 27.14, `s_vpi_vecval`)
abbrev pub decode : Bool → Bool → Bit4
decode false false = Zero
decode true false = One
decode false true = Z
decode true true = X

-- the bit of the value plane
abbrev pub value_bit : Bit4 → Bool
value_bit Zero = false
value_bit One = true
value_bit Z = false
value_bit X = true

-- the bit of the unknown plane
abbrev pub unknown_bit : Bit4 → Bool
unknown_bit Zero = false
unknown_bit One = false
unknown_bit Z = true
unknown_bit X = true

-- each four-valued bit has one encoding, and each encoding is of one bit
pub record EncodingIsExact : Type 0 where
  pub decodes : (b : Bit4) → decode (value_bit b) (unknown_bit b) ≡ b
  pub value : (v u : Bool) → value_bit (decode v u) ≡ v
  pub unknown : (v u : Bool) → unknown_bit (decode v u) ≡ u

-- lane i of a pair, where `lane` reads a lane of a word
abbrev pub pair_lane : {W : Type 0} → (W → ℕ → Bool) → Pair W → ℕ → Bit4
pair_lane lane pair i = decode (lane pair.value i) (lane pair.unknown i)

-- lane i of a pair that may be absent; an absent one reads as x
abbrev pub lane_or_x : {W : Type 0} → (W → ℕ → Bool) → Option (Pair W) → ℕ → Bit4
lane_or_x lane None i = X
lane_or_x lane (Some pair) i = pair_lane lane pair i

-- lane i of a slot of a file; a slot past the end reads as x
abbrev pub slot_lane : {W : Type 0} → (W → ℕ → Bool) → List (Pair W) → ℕ → ℕ → Bit4
slot_lane lane file slot i = lane_or_x lane (slice_get file slot) i
