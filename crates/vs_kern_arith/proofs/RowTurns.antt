-- A row added in place to the slots from its place on.
use Rattle.std.proofs.Common.{◌≡◌, ℕ, suc, ◌+◌, ◌-◌, ◌<◌, ◌≤◌, Bool, List, length, get_or, drop, Option, refl, sym, ap, ◌∙◌, subst, arith, inl, inr, length-drop}
use Rattle.std.proofs.lemmas.Bool.{cases_lt}
use Rattle.std.proofs.lemmas.List.{ext_get_or, get_or-drop}
use Rattle.vs_four.specs.declared.Bit4.TheVariants.{X}
use Rattle.vs_four.specs.Logic.{BitList, all_known}
use Rattle.vs_plane.specs.declared.pairs.Pair.{Pair}
use Rattle.vs_plane.specs.Lanes.{lane_or_x, slot_lane}
use Rattle.vs_plane.specs.Kernels.{lane_bits, AreDifferent, Fills, FillingComputes}
use Rattle.vs_kern_arith.specs.Digits.{digits}
use Rattle.vs_kern_arith.specs.Rows.{row_added}
use Rattle.vs_kern_arith.proofs.SumLaws.{some_unknown}
use Rattle.vs_kern_arith.proofs.ProductLaws.{product, length-product, product_low, row_stands}

-- `part` is the `count` numbers of `xs` from place `from` on
pub record IsPart (xs part : List ℕ) (from count : ℕ) : Type 0 where
  pub long : length part ≡ count
  pub within : from + count ≤ length xs
  pub at : (j : ℕ) → j < count → get_or part j 0 ≡ get_or xs (from + j) 0

-- no slot below the part is one of it
below_part : (to part : List ℕ) (n count k j : ℕ) → AreDifferent to → IsPart to part n count → k < n → j < count → get_or part j 0 ≡ get_or to k 0 → ⊥
below_part to part n count k j different q low l e =
    let same : k ≡ n + j = different.place k (n + j) (omega (arith, q.within)) (omega (arith, q.within)) (sym (sym (q.at j l) ∙ e)) in
    omega arith

-- the product after one more row
pub row_turn : {W : Type 0} (lane : W → ℕ → Bool) (lanes : ℕ) → FillingComputes lane lanes → (value : ℕ → BitList)
    → (a b : BitList) (to part : List ℕ) (n count i : ℕ) (before after : List (Pair W))
    → i < lanes → AreDifferent to → IsPart to part n count → n + count ≡ length to → length a ≡ length to
    → lane_bits lane before to i ≡ product a b n
    → value i ≡ row_added (some_unknown (all_known a) (all_known b)) (digits b n) a (drop n (product a b n))
    → Fills lane lanes value part count before after
    → lane_bits lane after to i ≡ product a b (suc n)
row_turn {W} lane lanes law value a b to part n count i before after in_lanes different q all long so_far is fills =
    ext_get_or X (lane_bits lane after to i) (product a b (suc n))
    (law.long after to i ∙ sym (length-product a b (suc n) ∙ long))
    (λ k h.
    let in_to : k < length to = omega (arith, h, law.long after to i) in
    elim (cases_lt k n) as (λ _. get_or (lane_bits lane after to i) k X ≡ get_or (product a b (suc n)) k X) [
      | inl low ↦
          law.bit after to k i in_to
          ∙ ap (λ (o : Option (Pair W)). lane_or_x lane o i) (fills.kept (get_or to k 0) (λ j l e. below_part to part n count k j different q low l e))
          ∙ sym (law.bit before to k i in_to)
          ∙ ap (λ (v : BitList). get_or v k X) so_far
          ∙ product_low a b n k low (omega (arith, in_to, long))
      | inr high ↦
          let j : ℕ = k - n in
          let at : n + j ≡ k = omega arith in
          let in_part : j < count = omega (arith, in_to, all) in
          law.bit after to k i in_to
          ∙ subst (λ (m : ℕ). slot_lane lane after (get_or to m 0) i ≡ get_or (product a b (suc n)) m X) at
          (ap (λ (s : ℕ). slot_lane lane after s i) (sym (q.at j in_part)) ∙ fills.bits j i in_part in_lanes ∙ ap (λ (v : BitList). get_or v j X) is ∙ row_stands a b n j (omega (arith, in_to, long)))
    ])

pub row_added-same : (s u d e : Bool) (a b p q : BitList) → s ≡ u → d ≡ e → a ≡ b → p ≡ q → row_added s d a p ≡ row_added u e b q
row_added-same s u d e a b p q h i j k =
    ap (λ (x : Bool). row_added x d a p) h
    ∙ ap (λ (x : Bool). row_added u x a p) i
    ∙ ap (λ (x : BitList). row_added u e x p) j
    ∙ ap (λ (x : BitList). row_added u e b x) k

-- the slots from place n on
pub rest_part : (to part : List ℕ) (n : ℕ) → n < length to → part ≡ drop n to → IsPart to part n (length part)
rest_part to part n h e = record {
  long = refl;
  within = omega (arith, length-drop n to, ap length e);
  at = λ j l. ap (λ (s : List ℕ). get_or s j 0) e ∙ get_or-drop n to j 0;
}
