-- The least and the greatest index, bit by bit.
use Rattle.std.proofs.Common.{◌≡◌, ℕ, suc, ◌+◌, ◌<◌, Bool, true, false, List, [], ◌∷◌, ◌++◌, length, drop, take, get_or, set, refl, sym, ap, ◌∙◌, arith}
use Rattle.std.specs.Prelude.{◌&&◌, ◌==◌}
use Rattle.std.proofs.Math.Seq.{take-suc-set}
use Rattle.std.proofs.lemmas.List.{drop_more, length-drop}
use Rattle.std.proofs.lemmas.Bool.Decides.{nat_tests}
use Rattle.vs_four.specs.declared.Bit4.{Bit4}
use Rattle.vs_design.specs.Sets.{Set4}
use Rattle.vs_sets.specs.Extremes.{extreme_bit, extreme_bits, counts_up}
use Rattle.vs_sets.proofs.Steps.{moved}

is_last : {A : Type 0} → List A → Bool
is_last [] = true
is_last (x ∷ xs) = false

last_is : {A : Type 0} (xs : List A) → is_last xs ≡ (length xs == 0)
unfolding is_last
last_is [] = refl
last_is (x ∷ xs) = grind (arith, nat_tests)

extreme_cons : (g s : Bool) (x : Set4) (rest : List Set4) → extreme_bits g s (x ∷ rest) ≡ extreme_bit (counts_up g (s && is_last rest)) x ∷ extreme_bits g s rest
unfolding is_last
extreme_cons true true x [] = refl
extreme_cons true false x [] = refl
extreme_cons false true x [] = refl
extreme_cons false false x [] = refl
extreme_cons true true x (y ∷ ys) = refl
extreme_cons true false x (y ∷ ys) = refl
extreme_cons false true x (y ∷ ys) = refl
extreme_cons false false x (y ∷ ys) = refl

same_place : (a b : ℕ) → a ≡ b → (n m : ℕ) → (a ≡ 0 → n ≡ m) → (n ≡ m → a ≡ 0) → (b == 0) ≡ (n == m)
same_place a b e n m p q = grind (arith, nat_tests, e, p, q)

pub extreme_step : (g s : Bool) (sets : List Set4) (n : ℕ) (d : Set4) → n < length sets
    → extreme_bits g s (drop n sets) ≡ (extreme_bit (counts_up g (s && ((n + 1) == length sets))) (get_or sets n d) ∷ []) ++ extreme_bits g s (drop (n + 1) sets)
extreme_step g s sets n d h =
    let rest = drop (n + 1) sets in
    let left = length-drop (n + 1) sets in
    let top : is_last rest ≡ ((n + 1) == length sets) = last_is rest ∙ same_place (length rest) (length rest) refl (n + 1) (length sets) (λ e. omega (arith, left, e)) (λ e. omega (arith, left, e)) in
    ap (extreme_bits g s) (drop_more sets n d h) ∙ extreme_cons g s (get_or sets n d) rest ∙ ap (λ t. extreme_bit (counts_up g (s && t)) (get_or sets n d) ∷ extreme_bits g s rest) top

-- one bit more is written
pub extreme_more : (g s : Bool) (sets : List Set4) (bits : List Bit4) (n : ℕ) (d : Set4) (v : Bit4) → n < length sets → n < length bits
    → v ≡ extreme_bit (counts_up g (s && ((n + 1) == length sets))) (get_or sets n d)
    → take n bits ++ extreme_bits g s (drop n sets) ≡ extreme_bits g s sets
    → take (n + 1) (set bits n v) ++ extreme_bits g s (drop (n + 1) sets) ≡ extreme_bits g s sets
extreme_more g s sets bits n d v h k e i =
    let next : n + 1 ≡ suc n = omega arith in
    let e1 : take (n + 1) (set bits n v) ≡ take n bits ++ v ∷ [] = ap (λ m. take m (set bits n v)) next ∙ take-suc-set bits n v k in
    let e2 = extreme_step g s sets n d h ∙ ap (λ b. (b ∷ []) ++ extreme_bits g s (drop (n + 1) sets)) (sym e) in
    ap (λ t. t ++ extreme_bits g s (drop (n + 1) sets)) e1 ∙ moved (take n bits) (v ∷ []) _ _ _ i e2
