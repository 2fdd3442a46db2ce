-- Slots moved by a constant distance.
use Rattle.std.proofs.Common.{◌≡◌, ℕ, zero, suc, ◌-◌, ◌<◌, ◌≤◌, Bool, true, false, ◌&&◌, List, [], ◌∷◌, ◌++◌, length, get_or, replicate, take, drop, sym, ap, ◌∙◌, refl, arith}
use Rattle.vs_four.specs.Logic.{all_known}
use Rattle.vs_four.specs.Tables.{is_known}
use Rattle.vs_four.specs.Shifts.{move_up, move_down}
use Rattle.vs_values.specs.Constants.{constant_bit, constant_bits}

unknown_bit : (s : ℕ) → 2 ≤ s → is_known (constant_bit s) ≡ false
unknown_bit zero h = absurd (omega arith)
unknown_bit (suc zero) h = absurd (omega arith)
unknown_bit (suc (suc zero)) h = refl
unknown_bit (suc (suc (suc n))) h = refl

and_false : (a b : Bool) → b ≡ false → (a && b) ≡ false
and_false true b h = h
and_false false b h = refl

pub unknown_at : (a : List ℕ) (i d : ℕ) → i < length a → 2 ≤ get_or a i d → all_known (constant_bits a) ≡ false
unknown_at [] i d l h = absurd (omega arith)
unknown_at (s ∷ a) zero d l h = ap (λ b. b && all_known (constant_bits a)) (unknown_bit s h)
unknown_at (s ∷ a) (suc i) d l h = and_false (is_known (constant_bit s)) (all_known (constant_bits a)) (unknown_at a i d (omega arith) h)

take_all : (n : ℕ) (xs : List ℕ) → length xs ≤ n → take n xs ≡ xs
take_all zero [] h = refl
take_all zero (x ∷ xs) h = absurd (omega arith)
take_all (suc n) [] h = refl
take_all (suc n) (x ∷ xs) h = ap (λ ys. x ∷ ys) (take_all n xs (omega arith))

take_fill : (p n fill : ℕ) (xs : List ℕ) → p ≤ n → take n (replicate p fill ++ xs) ≡ replicate p fill ++ take (n - p) xs
take_fill zero n fill xs h = let z : n ≡ n - 0 = omega arith in ap (λ k. take k xs) z
take_fill (suc p) zero fill xs h = absurd (omega arith)
take_fill (suc p) (suc n) fill xs h = let z : n - p ≡ suc n - suc p = omega arith in ap (λ ys. fill ∷ ys) (take_fill p n fill xs (omega arith)) ∙ ap (λ k. fill ∷ (replicate p fill ++ take k xs)) z

pub up_is : (to : List ℕ) (p fill : ℕ) → p ≤ length to → replicate p fill ++ take (length to - p) to ≡ move_up fill p to
up_is to p fill h = sym (take_fill p (length to) fill to h)

take_replicate : (m n fill : ℕ) → m ≤ n → take m (replicate n fill) ≡ replicate m fill
take_replicate zero n fill h = refl
take_replicate (suc m) zero fill h = absurd (omega arith)
take_replicate (suc m) (suc n) fill h = ap (λ ys. fill ∷ ys) (take_replicate m n fill (omega arith))

take_past : (n : ℕ) (xs ys : List ℕ) → length xs ≤ n → take n (xs ++ ys) ≡ xs ++ take (n - length xs) ys
take_past n [] ys h = let z : n ≡ n - 0 = omega arith in ap (λ k. take k ys) z
take_past zero (x ∷ xs) ys h = absurd (omega arith)
take_past (suc n) (x ∷ xs) ys h = let z : n - length xs ≡ suc n - suc (length xs) = omega arith in ap (λ zs. x ∷ zs) (take_past n xs ys (omega arith)) ∙ ap (λ k. x ∷ (xs ++ take k ys)) z

pub length_dropped : (p : ℕ) (xs : List ℕ) → length (drop p xs) ≡ length xs - p
length_dropped zero xs = omega arith
length_dropped (suc p) [] = omega arith
length_dropped (suc p) (x ∷ xs) = length_dropped p xs ∙ omega arith

pub down_is : (to : List ℕ) (p fill : ℕ) → p ≤ length to → drop p to ++ replicate p fill ≡ move_down fill p to
down_is to p fill h =
    let rest : length to - length (drop p to) ≡ p = omega (arith, length_dropped p to) in
    sym (take_past (length to) (drop p to) (replicate (length to) fill) (omega (arith, length_dropped p to))
    ∙ ap (λ k. drop p to ++ take k (replicate (length to) fill)) rest
    ∙ ap (λ ys. drop p to ++ ys) (take_replicate p (length to) fill h))
