-- What a kernel does: in every lane at once, it gives slots the value that an operator has for the vectors in other slots.
use Rattle.std.specs.Prelude.{◌≡◌, ◌≢◌, ℕ, ◌+◌, ◌<◌, ◌≤◌, Bool, List, [], ◌∷◌, map, length, slice_get, slice_set, slice_index, slice_index_or, All, Contains}
use Rattle.vs_four.specs.declared.Bit4.{Bit4}
use Rattle.vs_four.specs.declared.Bit4.TheVariants.{X}
use Rattle.vs_four.specs.Logic.{BitList, map2}
use Rattle.vs_plane.specs.declared.pairs.Pair.{Pair}
use Rattle.vs_plane.specs.Lanes.{pair_lane, slot_lane}

-- the vector that lane i has in these slots, least significant bit first
abbrev pub lane_bits : {W : Type 0} → (W → ℕ → Bool) → List (Pair W) → List ℕ → ℕ → BitList
lane_bits lane file slots i = map (λ slot. slot_lane lane file slot i) slots

-- ---- the slots of a call

-- no number stands at two places
pub record AreDifferent (xs : List ℕ) : Type 0 where
  pub place : (j k : ℕ) → j < length xs → k < length xs → slice_index xs j ≡ slice_index xs k → j ≡ k

-- no number stands in both lists
pub record AreApart (xs ys : List ℕ) : Type 0 where
  pub differ : (j k : ℕ) → j < length xs → k < length ys → slice_index xs j ≢ slice_index ys k

-- The slots that get the value, and those for what a kernel keeps on the way, in a file of `count` slots: each is one of the file's, and
-- none stands twice.
pub record AreTargets (count : ℕ) (to scratch : List ℕ) : Type 0 where
  pub to_below : All (λ slot. slot < count) to
  pub scratch_below : All (λ slot. slot < count) scratch
  pub to_differ : AreDifferent to
  pub scratch_differ : AreDifferent scratch
  pub both_apart : AreApart to scratch

-- The slots of an argument: each is one of the file's, and none is written.
pub record IsArgument (count : ℕ) (arg to scratch : List ℕ) : Type 0 where
  pub below : All (λ slot. slot < count) arg
  pub to_apart : AreApart arg to
  pub scratch_apart : AreApart arg scratch

-- ---- operators of a list of vectors

-- the operator of one vector, of two and of three
abbrev pub unary : (BitList → BitList) → List BitList → BitList
unary f (a ∷ []) = f a
unary f _ = []

abbrev pub binary : (BitList → BitList → BitList) → List BitList → BitList
binary f (a ∷ b ∷ []) = f a b
binary f _ = []

abbrev pub ternary : (BitList → BitList → BitList → BitList) → List BitList → BitList
ternary f (a ∷ b ∷ c ∷ []) = f a b c
ternary f _ = []

-- the operator whose value is one bit, as one whose value is a vector
abbrev pub bit_of_one : (BitList → Bit4) → BitList → BitList
bit_of_one f a = f a ∷ []

abbrev pub bit_of_two : (BitList → BitList → Bit4) → BitList → BitList → BitList
bit_of_two f a b = f a b ∷ []

-- ---- what a kernel promises

-- each slot in neither list has its planes as they were
pub record KeepsOthers {W : Type 0} (to scratch : List ℕ) (before after : List (Pair W)) : Type 0 where
  pub slots : length after ≡ length before
  pub kept : (slot : ℕ) → ¬ Contains to slot → ¬ Contains scratch slot → slice_get after slot ≡ slice_get before slot

-- In every lane the slots `to` have afterwards what the operator gives for that lane's vectors in the arguments before, whatever stands in
-- the other lanes; slots that are in neither `to` nor `scratch` stay.
pub record Computes {W : Type 0} (lane : W → ℕ → Bool) (lanes : ℕ) (operator : List BitList → BitList) (args : List (List ℕ)) (to scratch : List ℕ) (before after : List (Pair W)) : Type 0 where
  pub value : (i : ℕ) → i < lanes → lane_bits lane after to i ≡ operator (map (λ arg. lane_bits lane before arg i) args)
  pub others : KeepsOthers to scratch before after

-- ---- the value stored bit by bit

-- The first `done` slots of `to` have these bits of the value, which may be another one in each lane; slots that are none of these stay.
pub record Fills {W : Type 0} (lane : W → ℕ → Bool) (lanes : ℕ) (value : ℕ → BitList) (to : List ℕ) (done : ℕ) (before after : List (Pair W)) : Type 0 where
  pub slots : length after ≡ length before
  pub bits : (k i : ℕ) → k < done → i < lanes → slot_lane lane after (slice_index to k) i ≡ slice_index_or (value i) k X
  pub kept : (slot : ℕ) → ((k : ℕ) → k < done → slice_index to k ≢ slot) → slice_get after slot ≡ slice_get before slot

-- What storing a value bit by bit comes to.
pub record FillingComputes {W : Type 0} (lane : W → ℕ → Bool) (lanes : ℕ) : Type 0 where
  -- at first nothing is stored
  pub begins : (value : ℕ → BitList) (to : List ℕ) (file : List (Pair W)) → Fills lane lanes value to 0 file file
  -- one more slot gets its bit
  pub grows : (value : ℕ → BitList) (to : List ℕ) (done : ℕ) (before file : List (Pair W)) (pair : Pair W)
      → AreDifferent to → done < length to → slice_index to done < length file
      → Fills lane lanes value to done before file
      → ((i : ℕ) → i < lanes → pair_lane lane pair i ≡ slice_index_or (value i) done X)
      → Fills lane lanes value to (done + 1) before (slice_set file (slice_index to done) pair)
  -- what is read on the way is the bit that the argument's vector had before
  pub reads : (value : ℕ → BitList) (to : List ℕ) (done : ℕ) (before file : List (Pair W)) (arg : List ℕ) (k i : ℕ)
      → AreApart arg to → done ≤ length to → k < length arg
      → Fills lane lanes value to done before file
      → slot_lane lane file (slice_index arg k) i ≡ slice_index_or (lane_bits lane before arg i) k X
  -- at the end each lane's value stands there
  pub stands : (value : ℕ → BitList) (to : List ℕ) (done i : ℕ) (before file : List (Pair W))
      → i < lanes → length (value i) ≡ length to → done ≡ length to
      → Fills lane lanes value to done before file
      → lane_bits lane file to i ≡ value i
  -- slots in neither list were never written
  pub others : (value : ℕ → BitList) (to scratch : List ℕ) (done : ℕ) (before file : List (Pair W))
      → done ≤ length to
      → Fills lane lanes value to done before file
      → KeepsOthers to scratch before file
  -- so where the value is an operator's, the kernel keeps its promise
  pub ends : (operator : List BitList → BitList) (args : List (List ℕ)) (to scratch : List ℕ) (done : ℕ) (before file : List (Pair W))
      → ((i : ℕ) → i < lanes → length (operator (map (λ arg. lane_bits lane before arg i) args)) ≡ length to)
      → done ≡ length to
      → Fills lane lanes (λ i. operator (map (λ arg. lane_bits lane before arg i) args)) to done before file
      → Computes lane lanes operator args to scratch before file
  -- bit k of a lane's vector is that of slot k
  pub bit : (file : List (Pair W)) (slots : List ℕ) (k i : ℕ) → k < length slots
      → slice_index_or (lane_bits lane file slots i) k X ≡ slot_lane lane file (slice_index slots k) i
  -- a vector has a bit for each slot
  pub long : (file : List (Pair W)) (slots : List ℕ) (i : ℕ) → length (lane_bits lane file slots i) ≡ length slots
  -- bit k of an operator's value that goes bit by bit on two vectors, and how many bits it has
  pub pair_at : (f : Bit4 → Bit4 → Bit4) (xs ys : BitList) (k : ℕ) → k < length xs → k < length ys → slice_index_or (map2 f xs ys) k X ≡ f (slice_index_or xs k X) (slice_index_or ys k X)
  pub pair_long : (f : Bit4 → Bit4 → Bit4) (xs ys : BitList) → length xs ≡ length ys → length (map2 f xs ys) ≡ length xs
  -- the value may be said otherwise
  pub same : (value other : ℕ → BitList) (to : List ℕ) (done : ℕ) (before file : List (Pair W))
      → ((i : ℕ) → i < lanes → value i ≡ other i) → Fills lane lanes value to done before file → Fills lane lanes other to done before file
