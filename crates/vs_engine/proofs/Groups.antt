-- Values by lane, 64 lanes at a time.
use Rattle.std.proofs.Common.{◌≡◌, ◌≢◌, ℕ, zero, suc, ◌+◌, ◌-◌, ◌*◌, ◌/◌, ◌^◌, ◌<◌, ◌≤◌, Bool, ◌==◌, List, [], ◌∷◌, length, map, get_or, set, length-set, take, slice_get, Some, refl, sym, ap, ap₂, ◌∙◌, subst, arith, inl, inr}
use Rattle.std.proofs.lemmas.Bool.{cases_eq, cases_lt}
use Rattle.std.proofs.lemmas.List.{get_or-take, length-take-le}
use Rattle.std.proofs.lemmas.List.Elements.{All-from_get_or}
use Rattle.std.proofs.lemmas.Nat.Bits.{bit_at-lt}
use Rattle.std.specs.Prelude.{All}
use Rattle.std.specs.Int.{bit_at}
use Rattle.vs_four.specs.Planes.{bits_of_planes}
use Rattle.vs_design.specs.Values.{count_from, read}
use Rattle.vs_plane.specs.declared.pairs.Pair.{Pair}
use Rattle.vs_plane.specs.Lanes.{pair_lane, slot_lane}
use Rattle.vs_plane.specs.Lanes as Lanes
use Rattle.vs_plane.specs.Kernels.{lane_bits}
use Rattle.vs_plane.proofs.ColumnBits.{decode_is}
use Rattle.vs_plane.proofs.Filling.{slice_get-set_same, slice_get-set_other}
use Rattle.vs_program.specs.Lowered.{home}

-- the first so many elements have their values
pub record FirstAre {A : Type 0} (value : ℕ → A) (count : ℕ) (before xs : List A) : Type 0 where
  pub long : length xs ≡ length before
  pub values : (i : ℕ) → i < count → slice_get xs i ≡ Some (value i)

-- of the 64 elements from `64 * k` on the first so many have their values, and the elements of the other groups are as before
pub record GroupIs {A : Type 0} (value : ℕ → A) (k count : ℕ) (before xs : List A) : Type 0 where
  pub long : length xs ≡ length before
  pub values : (i : ℕ) → i < count → slice_get xs (64 * k + i) ≡ Some (value (64 * k + i))
  pub others : (n : ℕ) → n / 64 ≢ k → slice_get xs n ≡ slice_get before n

pub none_yet : {A : Type 0} (value : ℕ → A) (k : ℕ) (xs : List A) → GroupIs value k 0 xs xs
none_yet value k xs = record {
  long = refl;
  values = λ i h. absurd (let e : ⊥ = omega arith in e);
  others = λ n h. refl;
}

pub group_more : {A : Type 0} (value : ℕ → A) (k count : ℕ) (before xs : List A) (v : A) → count < 64 → 64 * k + 64 ≤ length before → v ≡ value (64 * k + count)
    → GroupIs value k count before xs → GroupIs value k (count + 1) before (set xs (64 * k + count) v)
group_more value k count before xs v small room is so_far =
    let place : ℕ = 64 * k + count in
    let within : place < length xs = omega (arith, so_far.long) in
    record {
      long = length-set xs place v ∙ so_far.long;
      values = λ i h. elim (cases_eq i count) as (λ _. slice_get (set xs place v) (64 * k + i) ≡ Some (value (64 * k + i))) [
        | inl e ↦ subst (λ (j : ℕ). slice_get (set xs place v) (64 * k + j) ≡ Some (value (64 * k + j))) (sym e) (slice_get-set_same xs place v within ∙ ap Some is)
        | inr ne ↦ slice_get-set_other xs place (64 * k + i) v (let other : place ≢ 64 * k + i = omega arith in other) ∙ so_far.values i (omega arith)
      ];
      others = λ n h. slice_get-set_other xs place n v (let other : place ≢ n = omega arith in other) ∙ so_far.others n h;
    }

-- one more group
pub first_groups : {A : Type 0} (value : ℕ → A) (k : ℕ) (initial before xs : List A) → FirstAre value (64 * k) initial before → GroupIs value k 64 before xs → FirstAre value (64 * (k + 1)) initial xs
first_groups value k initial before xs first group = record {
  long = group.long ∙ first.long;
  values = λ i h. elim (cases_lt i (64 * k)) [
    | inl l ↦ group.others i (let other : i / 64 ≢ k = omega arith in other) ∙ first.values i l
    | inr g ↦ let j : ℕ = i - 64 * k in
        let e : 64 * k + j ≡ i = omega arith in
        subst (λ (n : ℕ). slice_get xs n ≡ Some (value n)) e (group.values j (omega arith))
  ];
}

-- ---- the values of a group

-- one bit, by the bits of its two planes
pub one_bit : {W : Type 0} (lane : W → ℕ → Bool) (file : List (Pair W)) (pair : Pair W) (first v u i n : ℕ)
    → (bit_at v i == 1) ≡ lane pair.value n → (bit_at u i == 1) ≡ lane pair.unknown n → pair_lane lane pair n ≡ slot_lane lane file (4 + first) n
    → bits_of_planes 1 (v / 2 ^ i) (u / 2 ^ i) ≡ read (λ b. slot_lane lane file (home b) n) (count_from first 1)
unfolding bits_of_planes
one_bit lane file pair first v u i n value_is unknown_is loaded =
    ap (λ b. b ∷ []) (decode_is (bit_at v i) (bit_at u i) (bit_at-lt v i) (bit_at-lt u i) ∙ ap₂ Lanes.decode value_is unknown_is ∙ loaded)

-- the slots of bits
pub homes_are : (slots : List ℕ) (first n : ℕ) → n ≤ length slots → ((j : ℕ) → j < n → get_or slots j 0 ≡ 4 + first + j) → take n slots ≡ map home (count_from first n)
homes_are slots first zero h each = refl
homes_are [] first (suc n) h each = absurd (omega arith)
homes_are (s ∷ slots) first (suc n) h each =
    ap₂ (λ (x : ℕ) (xs : List ℕ). x ∷ xs)
    (each 0 (omega arith) ∙ (let e : 4 + first + 0 ≡ home first = omega arith in e))
    (homes_are slots (suc first) n (omega arith) (λ j l. each (suc j) (omega arith) ∙ (let e : 4 + first + suc j ≡ 4 + suc first + j = omega arith in e)))

pub homes_below : (slots : List ℕ) (first n count : ℕ) → n ≤ length slots → ((j : ℕ) → j < n → get_or slots j 0 ≡ 4 + first + j) → home (first + n) ≤ count → All (λ slot. slot < count) (take n slots)
homes_below slots first n count room each inside =
    let long : length (take n slots) ≡ n = length-take-le n slots room in
    All-from_get_or (λ slot. slot < count) (take n slots) 0
    (λ j h. let l : j < n = omega arith in omega (arith, get_or-take n slots j 0 l, each j l))

-- a vector, by its two planes
home_bits : {W : Type 0} (lane : W → ℕ → Bool) (file : List (Pair W)) (i : ℕ) (bits : List ℕ) → lane_bits lane file (map home bits) i ≡ read (λ b. slot_lane lane file (home b) i) bits
home_bits lane file i [] = refl
home_bits lane file i (b ∷ bits) = ap (λ bs. slot_lane lane file (home b) i ∷ bs) (home_bits lane file i bits)

pub vector_bits : {W : Type 0} (lane : W → ℕ → Bool) (file : List (Pair W)) (slots : List ℕ) (first n v u i : ℕ) → n ≤ length slots → ((j : ℕ) → j < n → get_or slots j 0 ≡ 4 + first + j)
    → bits_of_planes (length (take n slots)) v u ≡ lane_bits lane file (take n slots) i
    → bits_of_planes n v u ≡ read (λ b. slot_lane lane file (home b) i) (count_from first n)
vector_bits lane file slots first n v u i room each columns =
    let long : length (take n slots) ≡ n = length-take-le n slots room in
    sym (ap (λ (m : ℕ). bits_of_planes m v u) long)
    ∙ columns
    ∙ ap (λ (ss : List ℕ). lane_bits lane file ss i) (homes_are slots first n room each)
    ∙ home_bits lane file i (count_from first n)
