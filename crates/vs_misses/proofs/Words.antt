-- Words of bits.
use Rattle.std.proofs.Common.{◌≡◌, ◌≢◌, ℕ, zero, suc, ◌+◌, ◌*◌, ◌/◌, ◌%◌, ◌<◌, ◌≤◌, Bool, true, false, nat_eq, List, [], ◌∷◌, ◌++◌, length, get_or, set, take, map, replicate, slice_get, Some, refl, sym, ap, ap₂, ◌∙◌, inl, inr, arith}
use Rattle.std.proofs.lemmas.Bool.{cases_eq}
use Rattle.std.proofs.lemmas.List.{length-map, length-set, map-set, set-get_or, get_or-map, take_more_set, take_all, replicate_more}
use Rattle.std.proofs.lemmas.Option.{none-some, same_Some}
use Rattle.std.proofs.lemmas.Nat.Bits.{bit_at_lowest, bit_at-suc, bit_at-lt}
use Rattle.std.specs.Int.{bit_at}
use Rattle.vs_four.specs.declared.Bit4.{Bit4}
use Rattle.vs_plane.specs.declared.pairs.Pair.{Pair}
use Rattle.vs_plane.specs.Lanes.{pair_lane}
use Rattle.vs_stim.specs.declared.wanted.Digit.{Digit}
use Rattle.vs_stim.specs.declared.wanted.Digit.TheVariants.{Exactly, Any}
use Rattle.vs_stim.specs.Wanted.{marked}

-- the first bits are the lowest of the words, and the others are 0
pub record AreLowest (words : List ℕ) (count bits : ℕ) : Type 0 where
  pub low : (i : ℕ) → i < count → bit_at bits i ≡ get_or words i 0 % 2
  pub high : (i : ℕ) → count ≤ i → bit_at bits i ≡ 0

pub lowest_more : (words : List ℕ) (count bits new : ℕ) → bit_at new count ≡ get_or words count 0 % 2 → ((i : ℕ) → i ≢ count → bit_at new i ≡ bit_at bits i)
    → AreLowest words count bits → AreLowest words (count + 1) new
lowest_more words count bits new here others h = record {
  low = λ i below. elim (cases_eq i count) as (λ _. bit_at new i ≡ get_or words i 0 % 2) [
    | inl e ↦ ap (λ (n : ℕ). bit_at new n) e ∙ here ∙ ap (λ (n : ℕ). get_or words n 0 % 2) (sym e)
    | inr ne ↦ others i ne ∙ h.low i (omega arith)
  ];
  high = λ i past. others i (λ e. let never : ⊥ = omega arith in never) ∙ h.high i (omega arith);
}

-- ---- digits of which some stand for any bit

pub marked_long : (bits : List Bit4) (any : ℕ) → length (marked bits any) ≡ length bits
unfolding marked
marked_long [] any = refl
marked_long (b ∷ bits) any = ap suc (marked_long bits (any / 2))

-- a digit by its mark
pub mark : Bit4 → ℕ → Digit
mark b m = elim (nat_eq m 0) [ true ↦ Exactly b | false ↦ Any ]

pub marked_at : (bits : List Bit4) (any n : ℕ) (b : Bit4) → slice_get bits n ≡ Some b → slice_get (marked bits any) n ≡ Some (mark b (bit_at any n))
unfolding marked mark
marked_at [] any n b at = absurd (none-some b at)
marked_at (c ∷ bits) any zero b at = ap₂ (λ (x : Bit4) (m : ℕ). Some (elim (nat_eq m 0) as (λ _. Digit) [ true ↦ Exactly x | false ↦ Any ])) (same_Some c b at) (sym (bit_at_lowest any))
marked_at (c ∷ bits) any (suc n) b at = marked_at bits (any / 2) n b at ∙ ap (λ (m : ℕ). Some (elim (nat_eq m 0) as (λ _. Digit) [ true ↦ Exactly b | false ↦ Any ])) (sym (bit_at-suc any n))

pub mark_one : (b : Bit4) (m : ℕ) → m ≡ 1 → mark b m ≡ Any
unfolding mark
mark_one b m e = ap (λ (k : ℕ). elim (nat_eq k 0) as (λ _. Digit) [ true ↦ Exactly b | false ↦ Any ]) e

pub mark_zero : (b : Bit4) (any n : ℕ) → bit_at any n ≢ 1 → mark b (bit_at any n) ≡ Exactly b
unfolding mark
mark_zero b any n ne = ap (λ (k : ℕ). elim (nat_eq k 0) as (λ _. Digit) [ true ↦ Exactly b | false ↦ Any ]) (let e : bit_at any n ≡ 0 = omega (arith, ne, bit_at-lt any n) in e)

-- ---- pairs that get the same planes in 64 lanes

-- the first pairs have these planes in the 64 lanes from `64 * k` on, and each pair is as before in the other lanes
pub record AreFilled {W : Type 0} (lane : W → ℕ → Bool) (lanes k count : ℕ) (bit : ℕ → Bit4) (before pairs : List (Pair W)) : Type 0 where
  pub long : length pairs ≡ length before
  pub filled : (i : ℕ) → i < 64 → take count (map (λ p. pair_lane lane p (64 * k + i)) pairs) ≡ replicate count (bit i)
  pub others : (n : ℕ) → n < lanes → n / 64 ≢ k → map (λ p. pair_lane lane p n) pairs ≡ map (λ p. pair_lane lane p n) before

pub fill_more : {W : Type 0} (lane : W → ℕ → Bool) (lanes k count : ℕ) (bit : ℕ → Bit4) (before pairs : List (Pair W)) (old new : Pair W)
    → count < length pairs → get_or pairs count old ≡ old
    → ((i : ℕ) → i < 64 → pair_lane lane new (64 * k + i) ≡ bit i)
    → ((n : ℕ) → n < lanes → n / 64 ≢ k → pair_lane lane new n ≡ pair_lane lane old n)
    → AreFilled lane lanes k count bit before pairs → AreFilled lane lanes k (count + 1) bit before (set pairs count new)
fill_more lane lanes k count bit before pairs old new within was here stays h = record {
  long = length-set pairs count new ∙ h.long;
  filled = λ i below.
      let f = λ (p : Pair _). pair_lane lane p (64 * k + i) in
      ap (take (count + 1)) (map-set f pairs count new)
      ∙ take_more_set (map f pairs) count (f new) (omega (arith, within, length-map pairs f))
      ∙ ap₂ (λ (xs : List Bit4) (x : Bit4). xs ++ x ∷ []) (h.filled i below) (here i below)
      ∙ replicate_more count (bit i);
  others = λ n below ne.
      let f = λ (p : Pair _). pair_lane lane p n in
      map-set f pairs count new
      ∙ ap (set (map f pairs) count) (stays n below ne ∙ sym (get_or-map f pairs count old (f old) within ∙ ap f was))
      ∙ set-get_or (map f pairs) count (f old)
      ∙ h.others n below ne;
}

pub fill_all : {W : Type 0} (lane : W → ℕ → Bool) (lanes k count : ℕ) (bit : ℕ → Bit4) (before pairs : List (Pair W)) (i : ℕ) → i < 64 → length before ≤ count
    → AreFilled lane lanes k count bit before pairs → count ≡ length before → map (λ p. pair_lane lane p (64 * k + i)) pairs ≡ replicate (length before) (bit i)
fill_all lane lanes k count bit before pairs i below all h e =
    sym (take_all count (map (λ p. pair_lane lane p (64 * k + i)) pairs) (omega (arith, h.long, length-map pairs (λ p. pair_lane lane p (64 * k + i)))))
    ∙ h.filled i below ∙ ap (λ n. replicate n (bit i)) e
