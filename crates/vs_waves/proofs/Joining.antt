-- The texts of numbers that follow one another, joined.
use Rattle.std.proofs.Common.{◌≡◌, ℕ, zero, suc, ◌+◌, ◌-◌, ◌≤◌, List, ◌++◌, sym, ap, ap₂, ◌∙◌, append_assoc, append-nil, zero-add, arith}
use Rattle.std.proofs.Math.Nat.{suc-add}
use Rattle.std.specs.List.{flat_map}
use Rattle.vs_design.specs.Values.{count_from}

more_from : (f : ℕ → List ℕ) (first n : ℕ) → flat_map f (count_from first (suc n)) ≡ flat_map f (count_from first n) ++ f (first + n)
more_from f first zero = append-nil (f first) ∙ ap f (let e : first ≡ first + 0 = omega arith in e)
more_from f first (suc n) =
    ap (λ t. f first ++ t) (more_from f (suc first) n)
    ∙ ap (λ (k : ℕ). f first ++ (flat_map f (count_from (suc first) n) ++ f k)) (let e : suc first + n ≡ first + suc n = omega arith in e)
    ∙ sym (append_assoc (f first) (flat_map f (count_from (suc first) n)) (f (first + suc n)))

-- the text of one more
pub text-more : (f : ℕ → List ℕ) (n : ℕ) → flat_map f (count_from 0 (suc n)) ≡ flat_map f (count_from 0 n) ++ f n
text-more f n = more_from f 0 n ∙ ap (λ (k : ℕ). flat_map f (count_from 0 n) ++ f k) (let e : 0 + n ≡ n = omega arith in e)

split_from : (f : ℕ → List ℕ) (first n k : ℕ) → flat_map f (count_from first (n + k)) ≡ flat_map f (count_from first n) ++ flat_map f (count_from (first + n) k)
split_from f first zero k = ap₂ (λ (i m : ℕ). flat_map f (count_from i m)) (let e : first ≡ first + 0 = omega arith in e) (zero-add k)
split_from f first (suc n) k =
    ap (λ (m : ℕ). flat_map f (count_from first m)) (suc-add n k)
    ∙ ap (λ t. f first ++ t) (split_from f (suc first) n k)
    ∙ ap (λ (i : ℕ). f first ++ (flat_map f (count_from (suc first) n) ++ flat_map f (count_from i k))) (let e : suc first + n ≡ first + suc n = omega arith in e)
    ∙ sym (append_assoc (f first) (flat_map f (count_from (suc first) n)) (flat_map f (count_from (first + suc n) k)))

-- the text of the first ones, and that of the others
pub text-split : (f : ℕ → List ℕ) (n count : ℕ) → n ≤ count → flat_map f (count_from 0 count) ≡ flat_map f (count_from 0 n) ++ flat_map f (count_from n (count - n))
text-split f n count few =
    ap (λ (m : ℕ). flat_map f (count_from 0 m)) (let e : count ≡ n + (count - n) = omega arith in e)
    ∙ split_from f 0 n (count - n)
    ∙ ap (λ (i : ℕ). flat_map f (count_from 0 n) ++ flat_map f (count_from i (count - n))) (let e : 0 + n ≡ n = omega arith in e)
