-- The digits that are shown, found in the planes.
use Rattle.std.proofs.Common.{◌≡◌, ℕ, zero, suc, ◌+◌, ◌-◌, ◌*◌, ◌/◌, ◌%◌, ◌^◌, ◌<◌, ◌≤◌, Bool, true, false, if◌then◌else◌, length, take, refl, subst, sym, ap, ap₂, ◌∙◌, arith, inl, inr}
use Rattle.std.specs.Prelude.{reverse, slice_get, Some, min, max, bit_and}
use Rattle.std.specs.Int.{bit_at}
use Rattle.std.specs.Int.Count.{count_leading_zeros}
use Rattle.std.proofs.lemmas.Bool.{cases_lt}
use Rattle.std.proofs.lemmas.List.{take_all}
use Rattle.std.proofs.lemmas.Nat.Bits.{bit_at_lowest, bit_at-suc, bit_at-lt, bit_at_and, bit_at_above, bit_at_ones, bit_at_ones_above}
use Rattle.std.proofs.lemmas.Nat.{and_le_l, leading_length}
use Rattle.std.proofs.Math.Nat.{div-eq_of_lt-le, pow-le-pow_right}
use Rattle.vs_four.specs.declared.Bit4.{Bit4}
use Rattle.vs_four.specs.Logic.{BitList}
use Rattle.vs_four.specs.Planes.{decode, bits_of_planes}
use Rattle.vs_vcd.specs.Values.{is_redundant, shortest}
use Rattle.vs_vcd.proofs.Digits.{double}
use Rattle.vs_vcd.proofs.ValueLemmas.{shortest-redundant, shortest-shown, shortest-one}

-- ---- the words

-- what the code makes of the bits of two digits
pub stays : (a b c d : ℕ) → a < 2 → b < 2 → c < 2 → d < 2 → min (max (max a b) d) (max ((a + c) % 2) (1 - min b d)) ≡ (if is_redundant (decode a b) (decode c d) then 0 else 1)
stays zero zero zero zero h i j k = refl
stays zero zero zero (suc zero) h i j k = refl
stays zero zero (suc zero) zero h i j k = refl
stays zero zero (suc zero) (suc zero) h i j k = refl
stays zero (suc zero) zero zero h i j k = refl
stays zero (suc zero) zero (suc zero) h i j k = refl
stays zero (suc zero) (suc zero) zero h i j k = refl
stays zero (suc zero) (suc zero) (suc zero) h i j k = refl
stays (suc zero) zero zero zero h i j k = refl
stays (suc zero) zero zero (suc zero) h i j k = refl
stays (suc zero) zero (suc zero) zero h i j k = refl
stays (suc zero) zero (suc zero) (suc zero) h i j k = refl
stays (suc zero) (suc zero) zero zero h i j k = refl
stays (suc zero) (suc zero) zero (suc zero) h i j k = refl
stays (suc zero) (suc zero) (suc zero) zero h i j k = refl
stays (suc zero) (suc zero) (suc zero) (suc zero) h i j k = refl
stays (suc (suc a)) b c d h i j k = absurd (omega arith)
stays zero (suc (suc b)) c d h i j k = absurd (omega arith)
stays (suc zero) (suc (suc b)) c d h i j k = absurd (omega arith)
stays zero zero (suc (suc c)) d h i j k = absurd (omega arith)
stays zero (suc zero) (suc (suc c)) d h i j k = absurd (omega arith)
stays (suc zero) zero (suc (suc c)) d h i j k = absurd (omega arith)
stays (suc zero) (suc zero) (suc (suc c)) d h i j k = absurd (omega arith)
stays zero zero zero (suc (suc d)) h i j k = absurd (omega arith)
stays zero zero (suc zero) (suc (suc d)) h i j k = absurd (omega arith)
stays zero (suc zero) zero (suc (suc d)) h i j k = absurd (omega arith)
stays zero (suc zero) (suc zero) (suc (suc d)) h i j k = absurd (omega arith)
stays (suc zero) zero zero (suc (suc d)) h i j k = absurd (omega arith)
stays (suc zero) zero (suc zero) (suc (suc d)) h i j k = absurd (omega arith)
stays (suc zero) (suc zero) zero (suc (suc d)) h i j k = absurd (omega arith)
stays (suc zero) (suc zero) (suc zero) (suc (suc d)) h i j k = absurd (omega arith)

top_bit : (a j : ℕ) → 2 ^ j ≤ a → a < 2 ^ suc j → bit_at a j ≡ 1
top_bit a j low high =
    let d = double j in
    let from : 1 * 2 ^ j ≤ a = omega arith in
    let below : a < (1 + 1) * 2 ^ j = omega arith in
    let e : a / 2 ^ j ≡ 1 = div-eq_of_lt-le (2 ^ j) from below in
    ap (λ k. k % 2) e

-- above the highest bit of the lowest bits, so many, there is none
pub gone : (w most m i : ℕ) (r : Bool) → bit_and w (2 ^ most - 1) < 2 ^ m → m ≤ i → i < most → bit_at w i ≡ (if r then 0 else 1) → r ≡ true
gone w most m i true fits above within is = refl
gone w most m i false fits above within is =
    let none : bit_at (bit_and w (2 ^ most - 1)) i ≡ 0 = bit_at_above (bit_and w (2 ^ most - 1)) m i fits above in
    absurd (omega (arith, none, bit_at_and w (2 ^ most - 1) i, bit_at_ones most i within, is))

-- it is one of them
pub highest : (w most j : ℕ) → bit_and w (2 ^ most - 1) < 2 ^ suc j → 2 ^ suc j ≤ 2 * bit_and w (2 ^ most - 1) + 1 → (j < most) × (bit_at w j ≡ 1)
highest w most j fits least =
    let d = double j in
    let one : bit_at (bit_and w (2 ^ most - 1)) j ≡ 1 = top_bit (bit_and w (2 ^ most - 1)) j (omega (arith, d, least)) fits in
    let both = bit_at_and w (2 ^ most - 1) j in
    elim (cases_lt j most) [
      | inl below ↦ (below, omega (arith, one, both, bit_at_ones most j below, bit_at-lt w j))
      | inr above ↦ absurd (omega (arith, one, both, bit_at_ones_above most j (omega arith)))
    ]

pub stays-false : (r : Bool) (b : ℕ) → b ≡ 1 → b ≡ (if r then 0 else 1) → r ≡ false
stays-false true b one is = absurd (omega (arith, one, is))
stays-false false b one is = refl

-- where the first of the lowest digits that stay is
pub record Found (most count : ℕ) (redundant : ℕ → Bool) : Type 0 where
  pub place : ℕ
  pub is : count ≡ suc place
  pub within : place ≤ most
  pub out : (i : ℕ) → place ≤ i → i < most → redundant i ≡ true
  pub stays : (j : ℕ) → place ≡ suc j → redundant j ≡ false

pairs_is : (most : ℕ) → most ≤ 63 → 1 * 2 ^ most % 2 ^ 64 - 1 ≡ 2 ^ most - 1
pairs_is most h =
    let some_two : 0 < 2 = omega arith in
    let p : 2 ^ most ≤ 2 ^ 63 = pow-le-pow_right some_two h in
    omega (arith, p)

pub found : (w most : ℕ) (redundant : ℕ → Bool) → most ≤ 63 → w < 2 ^ 64 → ((i : ℕ) → i < 64 → bit_at w i ≡ (if redundant i then 0 else 1))
    → Found most (65 - count_leading_zeros 64 (bit_and w (1 * 2 ^ most % 2 ^ 64 - 1))) redundant
found w most redundant few fits each =
    let word : ℕ = bit_and w (2 ^ most - 1) in
    let is : bit_and w (1 * 2 ^ most % 2 ^ 64 - 1) ≡ word = ap (bit_and w) (pairs_is most few) in
    let t = leading_length 64 word (omega (arith, fits, and_le_l w (2 ^ most - 1))) in
    record {
      place = t.0;
      is = ap (λ x. 65 - count_leading_zeros 64 x) is ∙ omega (arith, t.1);
      within = below t.0 t.2 t.3;
      out = λ i above h. gone w most t.0 i (redundant i) t.2 above h (each i (omega arith));
      stays = λ j e. first j (subst (λ m. word < 2 ^ m) e t.2) (subst (λ m. 2 ^ m ≤ 2 * word + 1) e t.3);
    }
  where
    below : (m : ℕ) → bit_and w (2 ^ most - 1) < 2 ^ m → 2 ^ m ≤ 2 * bit_and w (2 ^ most - 1) + 1 → m ≤ most
    below zero h l = omega arith
    below (suc j) h l = let top = highest w most j h l in omega (arith, top.0)

    first : (j : ℕ) → bit_and w (2 ^ most - 1) < 2 ^ suc j → 2 ^ suc j ≤ 2 * bit_and w (2 ^ most - 1) + 1 → redundant j ≡ false
    first j h l = let top = highest w most j h l in stays-false (redundant j) (bit_at w j) top.1 (each j (omega (arith, top.0, few)))

-- ---- the digits

pub digit_at : (n v u i : ℕ) → i < n → slice_get (bits_of_planes n v u) i ≡ Some (decode (bit_at v i) (bit_at u i))
unfolding bits_of_planes
digit_at zero v u i h = absurd (omega arith)
digit_at (suc n) v u zero h = ap₂ (λ a b. Some (decode a b)) (sym (bit_at_lowest v)) (sym (bit_at_lowest u))
digit_at (suc n) v u (suc i) h = digit_at n (v / 2) (u / 2) i (omega arith) ∙ ap₂ (λ a b. Some (decode a b)) (sym (bit_at-suc v i)) (sym (bit_at-suc u i))

-- leading digits that are left out one after the other
dropped : (bits : BitList) (d : ℕ → Bit4) (m extra : ℕ) → extra + suc m ≤ length bits → ((i : ℕ) → i < length bits → slice_get bits i ≡ Some (d i))
    → ((i : ℕ) → m ≤ i → suc i < length bits → is_redundant (d (suc i)) (d i) ≡ true)
    → shortest (reverse (take (suc m) bits)) ≡ shortest (reverse (take (extra + suc m) bits))
dropped bits d m zero within digits out = let e : suc m ≡ 0 + suc m = omega arith in ap (λ k. shortest (reverse (take k bits))) e
dropped bits d m (suc extra) within digits out =
    let k : ℕ = extra + m in
    let up : extra + suc m ≡ suc k = omega arith in
    let over : suc extra + suc m ≡ suc (suc k) = omega arith in
    dropped bits d m extra (omega arith) digits out
    ∙ ap (λ j. shortest (reverse (take j bits))) up
    ∙ shortest-redundant bits (suc (suc k)) (suc k) k (d (suc k)) (d k) refl refl (omega arith) (digits (suc k) (omega arith)) (digits k (omega arith)) (out k (omega arith) (omega arith))
    ∙ ap (λ j. shortest (reverse (take j bits))) (sym over)

-- and those that are left
pub shown_is : (bits : BitList) (d : ℕ → Bit4) (m : ℕ) → m < length bits → ((i : ℕ) → i < length bits → slice_get bits i ≡ Some (d i))
    → ((i : ℕ) → m ≤ i → suc i < length bits → is_redundant (d (suc i)) (d i) ≡ true)
    → ((j : ℕ) → m ≡ suc j → is_redundant (d (suc j)) (d j) ≡ false)
    → reverse (take (suc m) bits) ≡ shortest (reverse bits)
shown_is bits d m within digits out stays =
    let extra : ℕ = length bits - suc m in
    let e : extra + suc m ≡ length bits = omega arith in
    sym (left m within stays)
    ∙ dropped bits d m extra (omega arith) digits out
    ∙ ap (λ k. shortest (reverse (take k bits))) e
    ∙ ap (λ bs. shortest (reverse bs)) (take_all (length bits) bits (omega arith))
  where
    left : (m : ℕ) → m < length bits → ((j : ℕ) → m ≡ suc j → is_redundant (d (suc j)) (d j) ≡ false) → shortest (reverse (take (suc m) bits)) ≡ reverse (take (suc m) bits)
    left zero h stays = shortest-one bits 1 (omega arith)
    left (suc j) h stays = shortest-shown bits (suc (suc j)) (suc j) j (d (suc j)) (d j) refl refl h (digits (suc j) h) (digits j (omega arith)) (stays j refl)
