-- The bits that the lanes drive.
use Rattle.std.specs.Prelude.{◌≡◌, ℕ, ◌<◌, Bool, true, false, List, [], length, map, take, sum, replicate, slice_index_or}
use Rattle.std.specs.List.{flat_map}
use Rattle.vs_four.specs.declared.Bit4.{Bit4}
use Rattle.vs_four.specs.declared.Bit4.TheVariants.{X}
use Rattle.vs_plane.specs.declared.pairs.Pair.{Pair}
use Rattle.vs_plane.specs.Lanes.{pair_lane}
use Rattle.vs_stim.specs.Known.{Known}
use Rattle.vs_stim.specs.Row.{sizes}
use Rattle.vs_feed.specs.Lanes.{lane_at}

-- the bits of a vector, input by input, each least significant bit first
abbrev pub vector_bits : List (List Bit4) → List Bit4
vector_bits vector = flat_map (λ value. value) vector

-- the bits that a lane drives, this many: those of its vector, or x where it has ended
abbrev pub driven : ℕ → Known → List Bit4
driven count k = elim k.live [ true ↦ vector_bits k.vector | false ↦ replicate count X ]

-- the value of an input that a lane drives, of this many bits
abbrev pub driven_value : ℕ → Known → ℕ → List Bit4
driven_value count k input = elim k.live [ true ↦ slice_index_or k.vector input [] | false ↦ replicate count X ]

-- each lane's vector has this many bits
pub record HaveBits (count : ℕ) (ks : List Known) : Type 0 where
  pub each : (i : ℕ) → i < length ks → sum (sizes (lane_at ks i).vector) ≡ count

-- in each lane the input has this many bits
pub record IsWide (number count : ℕ) (ks : List Known) : Type 0 where
  pub input : (i : ℕ) → i < length ks → number < length (lane_at ks i).vector
  pub bits : (i : ℕ) → i < length ks → length (slice_index_or (lane_at ks i).vector number []) ≡ count

-- the first pairs, this many, have the bits that the lanes drive, where `lane` reads a lane of a word of so many lanes
pub record AreFed {W : Type 0} (lane : W → ℕ → Bool) (lanes done : ℕ) (ks : List Known) (pairs : List (Pair W)) : Type 0 where
  pub each : (i : ℕ) → i < lanes → take done (map (λ p. pair_lane lane p i) pairs) ≡ take done (driven (length pairs) (lane_at ks i))
