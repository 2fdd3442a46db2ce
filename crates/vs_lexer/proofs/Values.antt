-- The number of decimal digits.
use Rattle.std.proofs.Common.{◌≡◌, ℕ, ◌+◌, ◌-◌, ◌*◌, ◌<◌, ◌≤◌, Bool, true, false, cond, List, [], ◌∷◌, sym, ◌∙◌, ap, length, take, drop, get_or, arith, take-append-drop}
use Rattle.std.specs.Prelude.{◌==◌}
use Rattle.std.specs.List.{fold}
use Rattle.std.proofs.lemmas.List.{take_more}
use Rattle.std.proofs.lemmas.List.Sums.{fold-append, fold_push}
use Rattle.vs_lexer.specs.Literals.{with_digit, decimal_value}

grows_by : (e : Bool) (n d : ℕ) → n ≤ cond e n (10 * n + d)
grows_by true n d = omega arith
grows_by false n d = omega arith

pub grows : (n : ℕ) (xs : List ℕ) → n ≤ fold with_digit n xs
grows n [] = omega arith
grows n (x ∷ xs) = let a = grows_by (x == 95) n (x - 48) in let b = grows (with_digit n x) xs in omega arith

-- the number of more digits is no smaller
pub grows_more : (xs : List ℕ) (i : ℕ) → i < length xs → with_digit (fold with_digit 0 (take i xs)) (get_or xs i 0) ≤ decimal_value xs
grows_more xs i h =
    let more : fold with_digit 0 (take (i + 1) xs) ≡ with_digit (fold with_digit 0 (take i xs)) (get_or xs i 0) = ap (λ l. fold with_digit 0 l) (take_more xs i 0 h) ∙ fold_push with_digit 0 (take i xs) (get_or xs i 0) in
    let all : fold with_digit 0 xs ≡ fold with_digit (fold with_digit 0 (take (i + 1) xs)) (drop (i + 1) xs) = ap (λ l. fold with_digit 0 l) (sym (take-append-drop (i + 1) xs)) ∙ fold-append with_digit 0 (take (i + 1) xs) (drop (i + 1) xs) in
    let le = grows (fold with_digit 0 (take (i + 1) xs)) (drop (i + 1) xs) in
    omega arith
