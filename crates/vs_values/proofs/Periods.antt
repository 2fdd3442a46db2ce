-- Copies of a list, one behind the other.
use Rattle.std.proofs.Common.{◌≡◌, ℕ, zero, suc, ◌+◌, List, [], ◌∷◌, ◌++◌, length, take, sym, ap, ◌∙◌, refl, arith, append_assoc, append-nil}
use Rattle.vs_four.specs.Lengths.{repeat}

pub take_whole : (xs : List ℕ) → take (length xs) xs ≡ xs
take_whole [] = refl
take_whole (x ∷ xs) = ap (λ ys. x ∷ ys) (take_whole xs)

-- ---- copies

repeat_end : (n : ℕ) (xs : List ℕ) → repeat n xs ++ xs ≡ repeat (suc n) xs
repeat_end zero xs = sym (append-nil xs)
repeat_end (suc n) xs = append_assoc xs (repeat n xs) xs ∙ ap (λ ys. xs ++ ys) (repeat_end n xs)

pub one_more_copy : (n k : ℕ) (xs : List ℕ) → k ≡ length xs → repeat n xs ++ take k xs ≡ repeat (n + 1) xs
one_more_copy n k xs h =
    let z : suc n ≡ n + 1 = omega arith in
    ap (λ i. repeat n xs ++ take i xs) h ∙ ap (λ ys. repeat n xs ++ ys) (take_whole xs) ∙ repeat_end n xs ∙ ap (λ i. repeat i xs) z
