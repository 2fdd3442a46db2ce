-- What is wanted of an output, packed into planes.
use Rattle.std.proofs.Common.{◌≡◌, ◌≢◌, ℕ, zero, suc, ◌+◌, ◌-◌, ◌*◌, ◌/◌, ◌%◌, ◌^◌, ◌<◌, ◌≤◌, ◌==◌, Bool, true, false, not, ◌&&◌, ◌||◌, nat_eq, List, [], ◌∷◌, length, get_or, set, map, replicate, slice_get, Option, Some, None, refl, sym, ap, ap₂, ◌∙◌, subst, inl, inr, arith}
use Rattle.std.proofs.lemmas.Bool.{cases_eq, cases_lt}
use Rattle.std.proofs.lemmas.List.{length-replicate, get_or_past, get_or-set_same, get_or-set_other}
use Rattle.std.proofs.lemmas.Option.{none-some, same_Some}
use Rattle.std.proofs.lemmas.Nat.{pow_pos}
use Rattle.std.proofs.lemmas.Nat.Bits.{bit_at-zero, bit_at-lt}
use Rattle.std.proofs.Math.Nat.{pow-suc}
use Rattle.std.specs.Int.{bit_at}
use Rattle.vs_four.specs.declared.Bit4.{Bit4}
use Rattle.vs_four.specs.declared.Bit4.TheVariants.{Zero, One}
use Rattle.vs_four.specs.Logic.{BitList, map2}
use Rattle.vs_four.specs.Tables.{is_one, same}
use Rattle.vs_four.specs.Planes.{bits_of_planes}
use Rattle.vs_four.specs.Planes as Planes
use Rattle.vs_four.specs.PlanesBack.{length-planes}
use Rattle.vs_plane.specs.declared.pairs.Pair.{Pair}
use Rattle.vs_plane.specs.Lanes.{decode, pair_lane}
use Rattle.vs_stim.specs.declared.wanted.Digit.{Digit}
use Rattle.vs_stim.specs.declared.wanted.Digit.TheVariants.{Exactly, Any}
use Rattle.vs_stim.specs.Wanted.{marked}
use Rattle.vs_stim.specs.Known.{Known}
use Rattle.vs_feed.specs.Lanes.{ended, lane_at}
use Rattle.vs_misses.specs.Missed.{is_met}
use Rattle.vs_misses.specs.Watch.{place_in}
use Rattle.vs_misses.specs.Rows.{any_bits, digits_at, wanted_in, digit_of, digits_in, HaveDigits, IsUniform}

-- ---- what is wanted in a lane

-- planes of ones stand for any bit
pub any_planes : (n k v u : ℕ) → n ≤ k → marked (bits_of_planes n v u) (2 ^ k - 1) ≡ any_bits n
unfolding marked bits_of_planes
any_planes zero k v u h = refl
any_planes (suc n) zero v u h = absurd (let e : ⊥ = omega arith in e)
any_planes (suc n) (suc k) v u h =
    let some : 0 < 2 ^ k = pow_pos k in
    let odd : (2 ^ suc k - 1) % 2 ≡ 1 = omega (arith, pow-suc 2 k, some) in
    let half : (2 ^ suc k - 1) / 2 ≡ 2 ^ k - 1 = omega (arith, pow-suc 2 k, some) in
    ap₂ (λ (d : Digit) (ds : List Digit). d ∷ ds)
    (ap (λ (m : ℕ). elim (nat_eq m 0) as (λ _. Digit) [ true ↦ Exactly (Planes.decode (v % 2) (u % 2)) | false ↦ Any ]) odd)
    (ap (λ (m : ℕ). marked (bits_of_planes n (v / 2) (u / 2)) m) half ∙ any_planes n k (v / 2) (u / 2) (omega arith))

-- a lane that has no vector wants nothing, and so does one that doesn't name the output
pub wanted_ended : (count : ℕ) (places : List (Option ℕ)) (k : Known) (i : ℕ) → k.live ≡ false → wanted_in count places k i ≡ any_bits count
wanted_ended count places k i h = rw h refl

pub wanted_unnamed : (count : ℕ) (places : List (Option ℕ)) (k : Known) (i : ℕ) → place_in places i ≡ None → wanted_in count places k i ≡ any_bits count
wanted_unnamed count places k i h = go k.live
  where
    go : (b : Bool) → (elim b as (λ _. List Digit) [ true ↦ digits_at count k.wanted (place_in places i) | false ↦ any_bits count ]) ≡ any_bits count
    go true = ap (digits_at count k.wanted) h
    go false = refl

pub wanted_named : (count : ℕ) (places : List (Option ℕ)) (k : Known) (i c : ℕ) → k.live ≡ true → place_in places i ≡ Some c → wanted_in count places k i ≡ get_or k.wanted c []
wanted_named count places k i c live h = rw live (ap (digits_at count k.wanted) h)

-- the planes of the digits that a lane wants of the output
pub planes_named : (count : ℕ) (places : List (Option ℕ)) (k : Known) (i c : ℕ) (w : List Digit) (v u a : ℕ) → k.live ≡ true → place_in places i ≡ Some c → get_or k.wanted c [] ≡ w → length w ≡ count
    → w ≡ marked (bits_of_planes (length w) v u) a → marked (bits_of_planes count v u) a ≡ wanted_in count places k i
planes_named count places k i c w v u a live at there long is =
    ap (λ (n : ℕ). marked (bits_of_planes n v u) a) (sym long) ∙ sym is ∙ sym there ∙ sym (wanted_named count places k i c live at)

-- past the last lane there is no vector
pub past_ended : (ks : List Known) (lane : ℕ) → length ks ≤ lane → (lane_at ks lane).live ≡ false
past_ended ks lane h = ap (λ (k : Known). k.live) (get_or_past ks lane ended h)

pub length_wanted : (count : ℕ) (places : List (Option ℕ)) (ks : List Known) (i : ℕ) → HaveDigits count places ks → length (wanted_in count places (lane_at ks i) i) ≡ count
length_wanted count places ks i have = elim (cases_lt i (length ks)) [
  | inl within ↦ go (lane_at ks i) (λ c at. have.size i c within at) (lane_at ks i).live (place_in places i) refl
  | inr past ↦ ap (λ (ds : List Digit). length ds) (wanted_ended count places (lane_at ks i) i (past_ended ks i past)) ∙ length-replicate count Any
]
  where
    go : (k : Known) → ((c : ℕ) → place_in places i ≡ Some c → length (get_or k.wanted c []) ≡ count) → (b : Bool) (o : Option ℕ) → place_in places i ≡ o
        → length (elim b as (λ _. List Digit) [ true ↦ digits_at count k.wanted (place_in places i) | false ↦ any_bits count ]) ≡ count
    go k size false o e = length-replicate count Any
    go k size true None e = ap (λ (p : Option ℕ). length (digits_at count k.wanted p)) e ∙ length-replicate count Any
    go k size true (Some c) e = ap (λ (p : Option ℕ). length (digits_at count k.wanted p)) e ∙ size c e

-- ---- the lanes of a group

-- the planes of the first lanes of a group
pub record AreGathered (ks : List Known) (places : List (Option ℕ)) (k done : ℕ) (value unknown any : List ℕ) : Type 0 where
  pub each : (count i : ℕ) → count ≤ 64 → HaveDigits count places ks → i < done
      → marked (bits_of_planes count (get_or value i 0) (get_or unknown i 0)) (get_or any i 0) ≡ wanted_in count places (lane_at ks (64 * k + i)) (64 * k + i)

pub gather_more : (ks : List Known) (places : List (Option ℕ)) (k done : ℕ) (value unknown any : List ℕ) (v u a : ℕ) → done < length value → done < length unknown → done < length any
    → ((count : ℕ) → count ≤ 64 → HaveDigits count places ks → marked (bits_of_planes count v u) a ≡ wanted_in count places (lane_at ks (64 * k + done)) (64 * k + done))
    → AreGathered ks places k done value unknown any → AreGathered ks places k (done + 1) (set value done v) (set unknown done u) (set any done a)
gather_more ks places k done value unknown any v u a value_room unknown_room any_room here all = record {
  each = λ count i most have h.
      let P : ℕ → Type 0 = λ n. marked (bits_of_planes count (get_or (set value done v) n 0) (get_or (set unknown done u) n 0)) (get_or (set any done a) n 0) ≡ wanted_in count places (lane_at ks (64 * k + n)) (64 * k + n) in
      elim (cases_eq i done) as (λ _. P i) [
        | inl e ↦ subst P (sym e)
            (ap₂ marked (ap₂ (bits_of_planes count) (get_or-set_same value done v 0 value_room) (get_or-set_same unknown done u 0 unknown_room)) (get_or-set_same any done a 0 any_room) ∙ here count most have)
        | inr ne ↦
            ap₂ marked (ap₂ (bits_of_planes count) (get_or-set_other value done i v 0 ne) (get_or-set_other unknown done i u 0 ne)) (get_or-set_other any done i a 0 ne)
            ∙ all.each count i most have (omega arith)
      ];
}

-- the bits of the first lanes of a group, where the output has one bit, and no others
pub record AreBits (ks : List Known) (places : List (Option ℕ)) (k done value unknown any : ℕ) : Type 0 where
  pub each : (i : ℕ) → HaveDigits 1 places ks → i < done
      → marked (bits_of_planes 1 (bit_at value i) (bit_at unknown i)) (bit_at any i) ≡ wanted_in 1 places (lane_at ks (64 * k + i)) (64 * k + i)
  pub value_high : (i : ℕ) → done ≤ i → bit_at value i ≡ 0
  pub unknown_high : (i : ℕ) → done ≤ i → bit_at unknown i ≡ 0
  pub any_high : (i : ℕ) → done ≤ i → bit_at any i ≡ 0

-- one digit has one bit of each plane
one_digit : (v u a : ℕ) → marked (bits_of_planes 1 (v % 2) (u % 2)) (a % 2) ≡ marked (bits_of_planes 1 v u) a
unfolding marked bits_of_planes
one_digit v u a =
    let value : v % 2 % 2 ≡ v % 2 = omega arith in
    let unknown : u % 2 % 2 ≡ u % 2 = omega arith in
    let any : a % 2 % 2 ≡ a % 2 = omega arith in
    ap₂ (λ (b : Bit4) (m : ℕ). (elim (nat_eq m 0) as (λ _. Digit) [ true ↦ Exactly b | false ↦ Any ]) ∷ []) (ap₂ Planes.decode value unknown) any

pub bits_more : (ks : List Known) (places : List (Option ℕ)) (k done value unknown any v u a new_value new_unknown new_any : ℕ)
    → ((count : ℕ) → count ≤ 64 → HaveDigits count places ks → marked (bits_of_planes count v u) a ≡ wanted_in count places (lane_at ks (64 * k + done)) (64 * k + done))
    → bit_at new_value done ≡ v % 2 → ((i : ℕ) → i ≢ done → bit_at new_value i ≡ bit_at value i)
    → bit_at new_unknown done ≡ u % 2 → ((i : ℕ) → i ≢ done → bit_at new_unknown i ≡ bit_at unknown i)
    → bit_at new_any done ≡ a % 2 → ((i : ℕ) → i ≢ done → bit_at new_any i ≡ bit_at any i)
    → AreBits ks places k done value unknown any → AreBits ks places k (done + 1) new_value new_unknown new_any
bits_more ks places k done value unknown any v u a new_value new_unknown new_any here value_here value_others unknown_here unknown_others any_here any_others so_far = record {
  each = λ i have h.
      let P : ℕ → Type 0 = λ n. marked (bits_of_planes 1 (bit_at new_value n) (bit_at new_unknown n)) (bit_at new_any n) ≡ wanted_in 1 places (lane_at ks (64 * k + n)) (64 * k + n) in
      elim (cases_eq i done) as (λ _. P i) [
        | inl e ↦ subst P (sym e) (ap₂ marked (ap₂ (bits_of_planes 1) value_here unknown_here) any_here ∙ one_digit v u a ∙ here 1 (omega arith) have)
        | inr ne ↦ ap₂ marked (ap₂ (bits_of_planes 1) (value_others i ne) (unknown_others i ne)) (any_others i ne) ∙ so_far.each i have (omega arith)
      ];
  value_high = λ i past. value_others i (λ e. let never : ⊥ = omega arith in never) ∙ so_far.value_high i (omega arith);
  unknown_high = λ i past. unknown_others i (λ e. let never : ⊥ = omega arith in never) ∙ so_far.unknown_high i (omega arith);
  any_high = λ i past. any_others i (λ e. let never : ⊥ = omega arith in never) ∙ so_far.any_high i (omega arith);
}

-- ---- pairs

-- the same bit by digits and by truth
pub decode_is : (p q : ℕ) → p < 2 → q < 2 → Planes.decode p q ≡ decode (p == 1) (q == 1)
decode_is zero zero h l = refl
decode_is zero (suc zero) h l = refl
decode_is (suc zero) zero h l = refl
decode_is (suc zero) (suc zero) h l = refl
decode_is (suc (suc p)) q h l = absurd (let e : ⊥ = omega arith in e)
decode_is p (suc (suc q)) h l = absurd (let e : ⊥ = omega arith in e)

-- a pair that was filled with a bit of each of two words
pub one_filled : (n i v u : ℕ) → n ≡ 1 → replicate n (decode (bit_at v i == 1) (bit_at u i == 1)) ≡ bits_of_planes n (bit_at v i) (bit_at u i)
unfolding bits_of_planes
one_filled n i v u one =
    let value : bit_at v i ≡ bit_at v i % 2 = omega (arith, bit_at-lt v i) in
    let unknown : bit_at u i ≡ bit_at u i % 2 = omega (arith, bit_at-lt u i) in
    ap (λ m. replicate m (decode (bit_at v i == 1) (bit_at u i == 1))) one
    ∙ ap (λ b. b ∷ []) (sym (decode_is (bit_at v i) (bit_at u i) (bit_at-lt v i) (bit_at-lt u i)) ∙ ap₂ Planes.decode value unknown)
    ∙ ap (λ m. bits_of_planes m (bit_at v i) (bit_at u i)) (sym one)

zero_planes : (n : ℕ) → bits_of_planes n 0 0 ≡ replicate n Zero
unfolding bits_of_planes
zero_planes zero = refl
zero_planes (suc n) = ap (λ bs. Zero ∷ bs) (zero_planes n)

one_planes : (n k : ℕ) → n ≤ k → bits_of_planes n (2 ^ k - 1) 0 ≡ replicate n One
unfolding bits_of_planes
one_planes zero k h = refl
one_planes (suc n) zero h = absurd (let e : ⊥ = omega arith in e)
one_planes (suc n) (suc k) h =
    let some : 0 < 2 ^ k = pow_pos k in
    let odd : (2 ^ suc k - 1) % 2 ≡ 1 = omega (arith, pow-suc 2 k, some) in
    let half : (2 ^ suc k - 1) / 2 ≡ 2 ^ k - 1 = omega (arith, pow-suc 2 k, some) in
    ap₂ (λ (b : Bit4) (bs : List Bit4). b ∷ bs) (ap (λ (m : ℕ). Planes.decode m 0) odd) (ap (λ (m : ℕ). bits_of_planes n m 0) half ∙ one_planes n k (omega arith))

-- pairs that were filled with the lowest bits of words that have the same bit everywhere
pub uniform_filled : (n i a low : ℕ) → n ≤ 64 → IsUniform a → bit_at low i ≡ a % 2 → replicate n (decode (bit_at low i == 1) (bit_at 0 i == 1)) ≡ bits_of_planes n a 0
uniform_filled n i a low most (inl e) f =
    ap₂ (λ p q. replicate n (decode (p == 1) (q == 1))) (f ∙ ap (λ m. m % 2) e) (bit_at-zero i) ∙ sym (zero_planes n) ∙ ap (λ m. bits_of_planes n m 0) (sym e)
uniform_filled n i a low most (inr e) f =
    ap₂ (λ p q. replicate n (decode (p == 1) (q == 1))) (f ∙ ap (λ m. m % 2) e) (bit_at-zero i) ∙ sym (one_planes n 64 most) ∙ ap (λ m. bits_of_planes n m 0) (sym e)

-- ---- digits in pairs

mark_is : (b : Bit4) (m : ℕ) → m < 2 → digit_of b (Planes.decode m 0) ≡ (elim (nat_eq m 0) as (λ _. Digit) [ true ↦ Exactly b | false ↦ Any ])
mark_is b zero h = refl
mark_is b (suc zero) h = refl
mark_is b (suc (suc m)) h = absurd (let e : ⊥ = omega arith in e)

marks : (bits : BitList) (any : ℕ) → map2 digit_of bits (bits_of_planes (length bits) any 0) ≡ marked bits any
unfolding marked bits_of_planes
marks [] any = refl
marks (b ∷ bits) any = ap₂ (λ (d : Digit) (ds : List Digit). d ∷ ds) (mark_is b (any % 2) (omega arith)) (marks bits (any / 2))

-- a lane's digits, once both were packed
pub digits_packed : {W : Type 0} (lane : W → ℕ → Bool) (wanted free : List (Pair W)) (i count v u a : ℕ)
    → map (λ p. pair_lane lane p i) wanted ≡ bits_of_planes count v u → map (λ p. pair_lane lane p i) free ≡ bits_of_planes count a 0
    → digits_in lane wanted free i ≡ marked (bits_of_planes count v u) a
digits_packed lane wanted free i count v u a e f =
    ap₂ (map2 digit_of) e (f ∙ ap (λ n. bits_of_planes n a 0) (sym (length-planes count v u))) ∙ marks (bits_of_planes count v u) a

-- the first lanes have their digits
pub record ArePacked {W : Type 0} (lane : W → ℕ → Bool) (lanes done : ℕ) (ks : List Known) (places : List (Option ℕ)) (count : ℕ) (wanted free : List (Pair W)) : Type 0 where
  pub wanted_long : length wanted ≡ count
  pub free_long : length free ≡ count
  pub each : (i : ℕ) → i < lanes → i < done → digits_in lane wanted free i ≡ wanted_in count places (lane_at ks i) i

pub packed_more : {W : Type 0} (lane : W → ℕ → Bool) (lanes k : ℕ) (ks : List Known) (places : List (Option ℕ)) (count : ℕ) (wanted free wanteds frees : List (Pair W))
    → length wanteds ≡ length wanted → length frees ≡ length free
    → ((i : ℕ) → i < 64 → digits_in lane wanteds frees (64 * k + i) ≡ wanted_in (length wanted) places (lane_at ks (64 * k + i)) (64 * k + i))
    → ((n : ℕ) → n < lanes → n / 64 ≢ k → digits_in lane wanteds frees n ≡ digits_in lane wanted free n)
    → ArePacked lane lanes (64 * k) ks places count wanted free → ArePacked lane lanes (64 * (k + 1)) ks places count wanteds frees
packed_more lane lanes k ks places count wanted free wanteds frees wanted_stays free_stays packed others so_far = record {
  wanted_long = wanted_stays ∙ so_far.wanted_long;
  free_long = free_stays ∙ so_far.free_long;
  each = λ i h below.
      let P : ℕ → Type 0 = λ n. digits_in lane wanteds frees n ≡ wanted_in count places (lane_at ks n) n in
      elim (cases_eq (i / 64) k) as (λ _. P i) [
        | inl e ↦
            let place : 64 * k + i % 64 ≡ i = omega arith in
            let low : i % 64 < 64 = omega arith in
            subst P place (packed (i % 64) low ∙ ap (λ n. wanted_in n places (lane_at ks (64 * k + i % 64)) (64 * k + i % 64)) so_far.wanted_long)
        | inr ne ↦ others i h ne ∙ so_far.each i h (omega arith)
      ];
}

-- ---- one digit

pub digit_at : {W : Type 0} (lane : W → ℕ → Bool) (wanted free : List (Pair W)) (i n : ℕ) (w f : Pair W) → slice_get wanted n ≡ Some w → slice_get free n ≡ Some f
    → slice_get (digits_in lane wanted free i) n ≡ Some (digit_of (pair_lane lane w i) (pair_lane lane f i))
digit_at lane [] free i n w f h l = absurd (none-some w h)
digit_at lane (v ∷ wanted) [] i n w f h l = absurd (none-some f l)
digit_at lane (v ∷ wanted) (g ∷ free) i zero w f h l =
    ap₂ (λ p q. Some (digit_of (pair_lane lane p i) (pair_lane lane q i))) (same_Some v w h) (same_Some g f l)
digit_at lane (v ∷ wanted) (g ∷ free) i (suc n) w f h l = digit_at lane wanted free i n w f h l

pub length_digits : {W : Type 0} (lane : W → ℕ → Bool) (wanted free : List (Pair W)) (i n : ℕ) → length wanted ≡ n → length free ≡ n → length (digits_in lane wanted free i) ≡ n
length_digits lane [] free i n h l = h
length_digits lane (v ∷ wanted) [] i n h l = absurd (let e : ⊥ = omega arith in e)
length_digits lane (v ∷ wanted) (g ∷ free) i zero h l = absurd (let e : ⊥ = omega arith in e)
length_digits lane (v ∷ wanted) (g ∷ free) i (suc n) h l = ap suc (length_digits lane wanted free i n (omega arith) (omega arith))

met_digit : (w f g : Bit4) → is_met (digit_of w f) g ≡ (elim (is_one f) as (λ _. Bool) [ true ↦ true | false ↦ same w g ])
met_digit w f g = go (is_one f)
  where
    go : (b : Bool) → is_met (elim b as (λ _. Digit) [ true ↦ Any | false ↦ Exactly w ]) g ≡ (elim b as (λ _. Bool) [ true ↦ true | false ↦ same w g ])
    go true = refl
    go false = refl

step : (a s o : Bool) → (not a || (not s && not o)) ≡ not (a && (elim o as (λ _. Bool) [ true ↦ true | false ↦ s ]))
step true true true = refl
step true true false = refl
step true false true = refl
step true false false = refl
step false true true = refl
step false true false = refl
step false false true = refl
step false false false = refl

-- one digit more that isn't met, where some weren't met before
pub unmet_more : (a : Bool) (w f g : Bit4) → (not a || (not (same w g) && not (is_one f))) ≡ not (a && is_met (digit_of w f) g)
unmet_more a w f g = step a (same w g) (is_one f) ∙ ap (λ m. not (a && m)) (sym (met_digit w f g))
