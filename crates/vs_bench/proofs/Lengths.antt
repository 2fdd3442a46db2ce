-- How long the texts of a bench are.
use Rattle.std.proofs.Common.{◌≡◌, ℕ, zero, suc, ◌+◌, ◌*◌, ◌^◌, ◌/◌, ◌%◌, ◌∷◌, [], length, refl, ap, ◌∙◌, add-one, length-append, arith}
use Rattle.vs_bench.specs.Texts.{state, binary, header, line, lines, stimulus}

length-binary : (w n : ℕ) → length (binary w n) ≡ w
unfolding binary
length-binary zero n = refl
length-binary (suc w) n =
    length-append (binary w (n / 2)) ((48 + n % 2) ∷ []) ∙ ap (λ m. m + 1) (length-binary w (n / 2)) ∙ add-one w

length-line : (lane k : ℕ) → length (line lane k) ≡ 35
length-line lane k =
    let a = state lane (suc k) / 2 ^ 32 in
    let digits = length-binary 32 a in
    let whole = length-append (binary 32 a) (10 ∷ []) in
    omega arith

length-lines : (lane k : ℕ) → length (lines lane k) ≡ 35 * k
length-lines lane zero = refl
length-lines lane (suc k) =
    let before = length-lines lane k in
    let one = length-line lane k in
    let whole = length-append (lines lane k) (line lane k) in
    omega arith

pub length-stimulus : (lane k : ℕ) → length (stimulus lane k) ≡ 13 + 35 * k
length-stimulus lane k =
    let rest = length-lines lane k in
    let whole = length-append header (lines lane k) in
    omega arith
