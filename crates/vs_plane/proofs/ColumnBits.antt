-- Vectors read off the columns of two squares of bits.
use Rattle.std.proofs.Common.{◌≡◌, ◌≢◌, ℕ, zero, suc, ◌+◌, ◌-◌, ◌/◌, ◌%◌, ◌^◌, ◌<◌, ◌≤◌, Bool, ◌==◌, List, length, get_or, set, refl, sym, ap, ap₂, ◌∙◌, arith, zero-add, inl, inr}
use Rattle.std.proofs.lemmas.Bool.{cases_lt}
use Rattle.std.proofs.lemmas.List.{ext_get_or, get_or-set_same, get_or-set_other, length-set}
use Rattle.std.proofs.lemmas.Nat.Bits.{bit_at-suc, bit_at-lt, bit_at-zero, bit_at_lowest}
use Rattle.std.proofs.Math.Nat.{pow-suc}
use Rattle.std.specs.Int.{bit_at}
use Rattle.vs_four.specs.declared.Bit4.TheVariants.{X}
use Rattle.vs_four.specs.Planes.{bits_of_planes}
use Rattle.vs_four.specs.Planes as Planes
use Rattle.vs_four.specs.PlanesBack.{length-planes}
use Rattle.vs_plane.specs.declared.pairs.Pair.{Pair}
use Rattle.vs_plane.specs.Lanes.{decode, pair_lane, slot_lane}
use Rattle.vs_plane.specs.Kernels.{lane_bits, FillingComputes}
use Rattle.vs_plane.specs.Squares.{AreColumns}

-- bit m of a vector, by bit m of its two planes
pub get_or-planes : (n v u m : ℕ) → m < n → get_or (bits_of_planes n v u) m X ≡ Planes.decode (bit_at v m) (bit_at u m)
unfolding bits_of_planes
get_or-planes zero v u m h = absurd (let e : ⊥ = omega arith in e)
get_or-planes (suc n) v u zero h = sym (ap₂ Planes.decode (bit_at_lowest v) (bit_at_lowest u))
get_or-planes (suc n) v u (suc m) h = get_or-planes n (v / 2) (u / 2) m (omega arith) ∙ sym (ap₂ Planes.decode (bit_at-suc v m) (bit_at-suc u m))

-- the same bit by digits and by truth
pub decode_is : (p q : ℕ) → p < 2 → q < 2 → Planes.decode p q ≡ decode (p == 1) (q == 1)
decode_is zero zero h l = refl
decode_is zero (suc zero) h l = refl
decode_is (suc zero) zero h l = refl
decode_is (suc zero) (suc zero) h l = refl
decode_is (suc (suc p)) q h l = absurd (let e : ⊥ = omega arith in e)
decode_is p (suc (suc q)) h l = absurd (let e : ⊥ = omega arith in e)

-- a word without bits is 0, and one without bits from n on is below 2^n
none_left : (k v : ℕ) → v < 2 ^ k → ((m : ℕ) → m < k → bit_at v m ≡ 0) → v ≡ 0
none_left zero v h none = omega arith
none_left (suc k) v h none =
    let half : v / 2 < 2 ^ k = omega (arith, pow-suc 2 k) in
    let even : v % 2 ≡ 0 = sym (bit_at_lowest v) ∙ none 0 (omega arith) in
    let rest : v / 2 ≡ 0 = none_left k (v / 2) half (λ m l. sym (bit_at-suc v m) ∙ none (suc m) (omega arith)) in
    omega arith

none_from : (n k v : ℕ) → v < 2 ^ (n + k) → ((m : ℕ) → n ≤ m → m < n + k → bit_at v m ≡ 0) → v < 2 ^ n
none_from zero k v h none =
    let same : 2 ^ (0 + k) ≡ 2 ^ k = ap (λ (m : ℕ). 2 ^ m) (zero-add k) in
    let e : v ≡ 0 = none_left k v (omega (arith, h, same)) (λ m l. none m (omega arith) (omega arith)) in
    omega arith
none_from (suc n) k v h none =
    let same : 2 ^ (suc n + k) ≡ 2 ^ suc (n + k) = ap (λ (m : ℕ). 2 ^ m) (let e : suc n + k ≡ suc (n + k) = omega arith in e) in
    let half : v / 2 < 2 ^ (n + k) = omega (arith, h, same, pow-suc 2 (n + k)) in
    let below : v / 2 < 2 ^ n = none_from n k (v / 2) half (λ m l r. sym (bit_at-suc v m) ∙ none (suc m) (omega arith) (omega arith)) in
    omega (arith, below, pow-suc 2 n)

below_of : (n v : ℕ) → v < 2 ^ 64 → n ≤ 64 → ((m : ℕ) → n ≤ m → m < 64 → bit_at v m ≡ 0) → v < 2 ^ n
below_of n v h most none =
    let all : n + (64 - n) ≡ 64 = omega arith in
    let same : 2 ^ (n + (64 - n)) ≡ 2 ^ 64 = ap (λ (m : ℕ). 2 ^ m) all in
    none_from n (64 - n) v (omega (arith, h, same)) (λ m l r. none m l (omega arith))

-- the bit of each row so far, in each lane
pub record AreRows {W : Type 0} (lane : W → ℕ → Bool) (file : List (Pair W)) (slots : List ℕ) (from count : ℕ) (value unknown : List ℕ) : Type 0 where
  pub value_long : length value ≡ 64
  pub unknown_long : length unknown ≡ 64
  pub bits : (m i : ℕ) → m < count → i < 64 → Planes.decode (bit_at (get_or value m 0) i) (bit_at (get_or unknown m 0) i) ≡ slot_lane lane file (get_or slots m 0) (from + i)
  pub value_rest : (m : ℕ) → count ≤ m → m < 64 → get_or value m 0 ≡ 0
  pub unknown_rest : (m : ℕ) → count ≤ m → m < 64 → get_or unknown m 0 ≡ 0

pub row_more : {W : Type 0} (lane : W → ℕ → Bool) (file : List (Pair W)) (slots : List ℕ) (from count : ℕ) (value unknown : List ℕ) (pair : Pair W) (v u : ℕ)
    → count < 64 → AreRows lane file slots from count value unknown
    → ((i : ℕ) → i < 64 → (bit_at v i == 1) ≡ lane pair.value (from + i)) → ((i : ℕ) → i < 64 → (bit_at u i == 1) ≡ lane pair.unknown (from + i))
    → ((i : ℕ) → pair_lane lane pair i ≡ slot_lane lane file (get_or slots count 0) i)
    → AreRows lane file slots from (count + 1) (set value count v) (set unknown count u)
row_more lane file slots from count value unknown pair v u small rows value_is unknown_is loaded = record {
  value_long = length-set value count v ∙ rows.value_long;
  unknown_long = length-set unknown count u ∙ rows.unknown_long;
  bits = λ m i h l.
      elim (cases_lt m count) as (λ _. Planes.decode (bit_at (get_or (set value count v) m 0) i) (bit_at (get_or (set unknown count u) m 0) i) ≡ slot_lane lane file (get_or slots m 0) (from + i)) [
        | inl earlier ↦
            let other : m ≢ count = omega arith in
            ap₂ (λ (x y : ℕ). Planes.decode (bit_at x i) (bit_at y i)) (get_or-set_other value count m v 0 other) (get_or-set_other unknown count m u 0 other)
            ∙ rows.bits m i earlier l
        | inr here ↦
            let e : m ≡ count = omega arith in
            ap₂ (λ (x y : ℕ). Planes.decode (bit_at x i) (bit_at y i))
            (ap (λ (k : ℕ). get_or (set value count v) k 0) e ∙ get_or-set_same value count v 0 (omega (arith, small, rows.value_long)))
            (ap (λ (k : ℕ). get_or (set unknown count u) k 0) e ∙ get_or-set_same unknown count u 0 (omega (arith, small, rows.unknown_long)))
            ∙ decode_is (bit_at v i) (bit_at u i) (bit_at-lt v i) (bit_at-lt u i)
            ∙ ap₂ decode (value_is i l) (unknown_is i l)
            ∙ loaded (from + i)
            ∙ sym (ap (λ (k : ℕ). slot_lane lane file (get_or slots k 0) (from + i)) e)
      ];
  value_rest = λ m h l. get_or-set_other value count m v 0 (let other : m ≢ count = omega arith in other) ∙ rows.value_rest m (omega arith) l;
  unknown_rest = λ m h l. get_or-set_other unknown count m u 0 (let other : m ≢ count = omega arith in other) ∙ rows.unknown_rest m (omega arith) l;
}

-- ---- the columns

pub column_vector : {W : Type 0} (lane : W → ℕ → Bool) (lanes : ℕ) → FillingComputes lane lanes
    → (file : List (Pair W)) (slots : List ℕ) (from : ℕ) (value unknown value_columns unknown_columns : List ℕ) (i : ℕ)
    → length slots ≤ 64 → i < 64 → AreRows lane file slots from (length slots) value unknown → AreColumns value value_columns → AreColumns unknown unknown_columns
    → bits_of_planes (length slots) (get_or value_columns i 0) (get_or unknown_columns i 0) ≡ lane_bits lane file slots (from + i)
column_vector lane lanes law file slots from value unknown value_columns unknown_columns i most in_lanes rows value_turned unknown_turned =
    let n : ℕ = length slots in
    let v : ℕ = get_or value_columns i 0 in
    let u : ℕ = get_or unknown_columns i 0 in
    ext_get_or X (bits_of_planes n v u) (lane_bits lane file slots (from + i))
    (length-planes n v u ∙ sym (law.long file slots (from + i)))
    (λ m h.
    let in_slots : m < n = omega (arith, h, length-planes n v u) in
    get_or-planes n v u m in_slots
    ∙ ap₂ Planes.decode (value_turned.bits i m in_lanes (omega arith)) (unknown_turned.bits i m in_lanes (omega arith))
    ∙ rows.bits m i in_slots in_lanes
    ∙ sym (law.bit file slots m (from + i) in_slots))

pub column_below : (rows columns : List ℕ) (n i : ℕ) → n ≤ 64 → i < 64 → ((m : ℕ) → n ≤ m → m < 64 → get_or rows m 0 ≡ 0) → AreColumns rows columns
    → get_or columns i 0 < 2 ^ 64 → get_or columns i 0 < 2 ^ n
column_below rows columns n i most in_lanes rest turned fits =
    below_of n (get_or columns i 0) fits most (λ m l k. turned.bits i m in_lanes k ∙ ap (λ (x : ℕ). bit_at x i) (rest m l k) ∙ bit_at-zero i)
