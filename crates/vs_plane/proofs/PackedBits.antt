-- Vectors packed into pairs by the columns of two squares of bits.
use Rattle.std.proofs.Common.{◌≡◌, ◌≢◌, ℕ, zero, suc, ◌+◌, ◌*◌, ◌/◌, ◌<◌, ◌≤◌, Bool, ◌==◌, List, [], ◌∷◌, length, map, get_or, set, slice_get, Some, refl, sym, ap, ap₂, ◌∙◌, subst, arith, inl, inr}
use Rattle.std.proofs.lemmas.Bool.{cases_eq}
use Rattle.std.proofs.lemmas.List.{ext_get_or, length-map, length-set}
use Rattle.std.proofs.lemmas.Option.{slice_get_within}
use Rattle.std.proofs.lemmas.Nat.Bits.{bit_at-lt}
use Rattle.std.specs.Int.{bit_at}
use Rattle.vs_four.specs.declared.Bit4.TheVariants.{X}
use Rattle.vs_four.specs.Planes.{bits_of_planes}
use Rattle.vs_four.specs.Planes as Planes
use Rattle.vs_four.specs.PlanesBack.{length-planes}
use Rattle.vs_plane.specs.declared.pairs.Pair.{Pair}
use Rattle.vs_plane.specs.Lanes.{decode, lane_or_x, pair_lane, slot_lane}
use Rattle.vs_plane.specs.Squares.{AreColumns}
use Rattle.vs_plane.proofs.ColumnBits.{get_or-planes, decode_is}
use Rattle.vs_plane.proofs.Filling.{slice_get-set_same, slice_get-set_other}

-- the first pairs have the bits of these rows in the 64 lanes from `64 * k` on, and each pair is as before in the other lanes
pub record ArePacked {W : Type 0} (lane : W → ℕ → Bool) (lanes k count : ℕ) (value unknown : List ℕ) (before pairs : List (Pair W)) : Type 0 where
  pub long : length pairs ≡ length before
  pub bits : (m i : ℕ) → m < count → i < 64 → slot_lane lane pairs m (64 * k + i) ≡ decode (bit_at (get_or value m 0) i == 1) (bit_at (get_or unknown m 0) i == 1)
  pub others : (m n : ℕ) → n < lanes → n / 64 ≢ k → slot_lane lane pairs m n ≡ slot_lane lane before m n

pub packed_more : {W : Type 0} (lane : W → ℕ → Bool) (lanes k count : ℕ) (value unknown : List ℕ) (before pairs : List (Pair W)) (old new : Pair W)
    → slice_get pairs count ≡ Some old
    → ((i : ℕ) → i < 64 → lane new.value (64 * k + i) ≡ (bit_at (get_or value count 0) i == 1))
    → ((i : ℕ) → i < 64 → lane new.unknown (64 * k + i) ≡ (bit_at (get_or unknown count 0) i == 1))
    → ((n : ℕ) → n < lanes → n / 64 ≢ k → lane new.value n ≡ lane old.value n)
    → ((n : ℕ) → n < lanes → n / 64 ≢ k → lane new.unknown n ≡ lane old.unknown n)
    → ArePacked lane lanes k count value unknown before pairs
    → ArePacked lane lanes k (count + 1) value unknown before (set pairs count new)
packed_more lane lanes k count value unknown before pairs old new was value_is unknown_is value_stays unknown_stays packed =
    let within : count < length pairs = slice_get_within pairs count old was in
    let same = slice_get-set_same pairs count new within in
    record {
      long = length-set pairs count new ∙ packed.long;
      bits = λ m i h l. elim (cases_eq m count) as (λ _. slot_lane lane (set pairs count new) m (64 * k + i) ≡ decode (bit_at (get_or value m 0) i == 1) (bit_at (get_or unknown m 0) i == 1)) [
        | inl e ↦ subst (λ (q : ℕ). slot_lane lane (set pairs count new) q (64 * k + i) ≡ decode (bit_at (get_or value q 0) i == 1) (bit_at (get_or unknown q 0) i == 1)) (sym e)
            (ap (λ o. lane_or_x lane o (64 * k + i)) same ∙ ap₂ decode (value_is i l) (unknown_is i l))
        | inr ne ↦ ap (λ o. lane_or_x lane o (64 * k + i)) (slice_get-set_other pairs count m new (λ e. ne (sym e))) ∙ packed.bits m i (omega arith) l
      ];
      others = λ m n h l. elim (cases_eq m count) as (λ _. slot_lane lane (set pairs count new) m n ≡ slot_lane lane before m n) [
        | inl e ↦ subst (λ (q : ℕ). slot_lane lane (set pairs count new) q n ≡ slot_lane lane before q n) (sym e)
            (ap (λ o. lane_or_x lane o n) same ∙ ap₂ decode (value_stays n h l) (unknown_stays n h l) ∙ sym (ap (λ o. lane_or_x lane o n) was) ∙ packed.others count n h l)
        | inr ne ↦ ap (λ o. lane_or_x lane o n) (slice_get-set_other pairs count m new (λ e. ne (sym e))) ∙ packed.others m n h l
      ];
    }

-- the bits of a lane, by the numbers of the pairs
lane_at : {W : Type 0} (lane : W → ℕ → Bool) (pairs : List (Pair W)) (n m : ℕ) → get_or (map (λ p. pair_lane lane p n) pairs) m X ≡ slot_lane lane pairs m n
lane_at lane [] n m = refl
lane_at lane (p ∷ pairs) n zero = refl
lane_at lane (p ∷ pairs) n (suc m) = lane_at lane pairs n m

pub packed_vector : {W : Type 0} (lane : W → ℕ → Bool) (lanes k count : ℕ) (value unknown value_columns unknown_columns : List ℕ) (before pairs : List (Pair W)) (i : ℕ)
    → length before ≤ 64 → i < 64 → length before ≤ count → AreColumns value value_columns → AreColumns unknown unknown_columns
    → ArePacked lane lanes k count value_columns unknown_columns before pairs
    → map (λ p. pair_lane lane p (64 * k + i)) pairs ≡ bits_of_planes (length before) (get_or value i 0) (get_or unknown i 0)
packed_vector lane lanes k count value unknown value_columns unknown_columns before pairs i most in_lanes all value_turned unknown_turned packed =
    let f = λ (p : Pair _). pair_lane lane p (64 * k + i) in
    let v : ℕ = get_or value i 0 in
    let u : ℕ = get_or unknown i 0 in
    let planes = length-planes (length before) v u in
    ext_get_or X (map f pairs) (bits_of_planes (length before) v u)
    (length-map pairs f ∙ packed.long ∙ sym planes)
    (λ m h.
    let below : m < length before = omega (arith, h, length-map pairs f, packed.long) in
    lane_at lane pairs (64 * k + i) m
    ∙ packed.bits m i (omega arith) in_lanes
    ∙ sym (decode_is (bit_at (get_or value_columns m 0) i) (bit_at (get_or unknown_columns m 0) i) (bit_at-lt (get_or value_columns m 0) i) (bit_at-lt (get_or unknown_columns m 0) i))
    ∙ ap₂ Planes.decode (value_turned.bits m i (omega arith) in_lanes) (unknown_turned.bits m i (omega arith) in_lanes)
    ∙ sym (get_or-planes (length before) v u m below))

pub packed_others : {W : Type 0} (lane : W → ℕ → Bool) (lanes k count : ℕ) (value unknown : List ℕ) (before pairs : List (Pair W)) (n : ℕ)
    → n < lanes → n / 64 ≢ k → ArePacked lane lanes k count value unknown before pairs
    → map (λ p. pair_lane lane p n) pairs ≡ map (λ p. pair_lane lane p n) before
packed_others lane lanes k count value unknown before pairs n h ne packed =
    let f = λ (p : Pair _). pair_lane lane p n in
    ext_get_or X (map f pairs) (map f before) (length-map pairs f ∙ packed.long ∙ sym (length-map before f))
    (λ m _. lane_at lane pairs n m ∙ packed.others m n h ne ∙ sym (lane_at lane before n m))
