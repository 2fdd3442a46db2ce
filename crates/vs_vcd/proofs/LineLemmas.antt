-- The lines of values, from their parts.
use Rattle.std.proofs.Common.{◌≡◌, ℕ, ◌+◌, ◌<◌, ◌≤◌, List, [], ◌∷◌, ◌++◌, length, map, reverse, take, set, slice_get, Some, refl, sym, ap, ◌∙◌, append_assoc, length-append, arith}
use Rattle.std.proofs.Math.Seq.{take-append_seam, take-set-lt, set-append_seam}
use Rattle.std.proofs.lemmas.List.{length-take, length-take-le, take_more_set}
use Rattle.vs_four.specs.declared.Bit4.{Bit4}
use Rattle.vs_four.specs.Logic.{BitList}
use Rattle.vs_vcd.specs.Numerals.{identifier}
use Rattle.vs_vcd.specs.Values.{line, digit_code, shortest, value_line, tail_text}

blank_first : (n : ℕ) → tail_text n ≡ 32 ∷ line (identifier n)
unfolding tail_text
blank_first n = refl

one_digit : (n : ℕ) (b : Bit4) → value_line n (b ∷ []) ≡ digit_code b ∷ line (identifier n)
unfolding value_line
one_digit n b = refl

more_digits : (n : ℕ) (bits : BitList) → 2 ≤ length bits → value_line n bits ≡ 98 ∷ (map digit_code (shortest (reverse bits)) ++ tail_text n)
unfolding value_line tail_text
more_digits n [] long = absurd (omega arith)
more_digits n (a ∷ []) long = absurd (omega arith)
more_digits n (a ∷ b ∷ bits) long =
    let digits = map digit_code (shortest (reverse (a ∷ b ∷ bits))) in
    ap (λ t. 98 ∷ (t ++ 10 ∷ [])) (append_assoc digits (32 ∷ []) (identifier n)) ∙ ap (λ t. 98 ∷ t) (append_assoc digits (32 ∷ identifier n) (10 ∷ []))

-- the digit is written over the blank
pub line_of_one : (at end n : ℕ) (b : Bit4) (old middle tail : List ℕ) → at ≤ length old → tail ≡ tail_text n
    → take end middle ≡ take at old ++ tail → take end (set middle at (digit_code b)) ≡ take at old ++ value_line n (b ∷ [])
line_of_one at end n b old middle tail within ends before =
    let rest = line (identifier n) in
    let text : take end middle ≡ take at old ++ 32 ∷ line (identifier n) = before ∙ ap (λ t. take at old ++ t) (ends ∙ blank_first n) in
    let start : length (take at old) ≡ at = length-take-le at old within in
    let below : at < end = omega (arith, start, ap length text, length-append (take at old) (32 ∷ line (identifier n)), length-take end middle) in
    take-set-lt end middle at (digit_code b) below
    ∙ ap (λ xs. set xs at (digit_code b)) text
    ∙ ap (λ k. set (take at old ++ 32 ∷ rest) k (digit_code b)) (sym start)
    ∙ set-append_seam (take at old) 32 rest (digit_code b)
    ∙ ap (λ t. take at old ++ t) (sym (one_digit n b))

-- a vector of one bit
pub lone_bit : (bits : BitList) (b : Bit4) → length bits ≡ 1 → slice_get bits 0 ≡ Some b → b ∷ [] ≡ bits
lone_bit [] b one first = absurd (omega arith)
lone_bit (a ∷ []) b one first = cc
lone_bit (a ∷ c ∷ bits) b one first = absurd (omega arith)

-- `b`, the digits and the tail
pub line_of_more : (at middle_end end n : ℕ) (bits : BitList) (old middle new tail : List ℕ) → 2 ≤ length bits → at < length old → tail ≡ tail_text n
    → take middle_end middle ≡ take (at + 1) (set old at 98) ++ map digit_code (shortest (reverse bits)) → take end new ≡ take middle_end middle ++ tail → take end new ≡ take at old ++ value_line n bits
line_of_more at middle_end end n bits old middle new tail long within ends before after =
    let digits = map digit_code (shortest (reverse bits)) in
    after
    ∙ ap (λ t. t ++ tail) (before ∙ ap (λ t. t ++ digits) (take_more_set old at 98 within))
    ∙ ap (λ t. ((take at old ++ 98 ∷ []) ++ digits) ++ t) ends
    ∙ append_assoc (take at old ++ 98 ∷ []) digits (tail_text n)
    ∙ append_assoc (take at old) (98 ∷ []) (digits ++ tail_text n)
    ∙ ap (λ t. take at old ++ t) (sym (more_digits n bits long))

-- a text at the beginning of eight zeros
pub front_is : (text front rest : List ℕ) → front ≡ text → take (length text) (front ++ rest) ≡ text
front_is text front rest e = ap (λ t. take (length text) (t ++ rest)) e ∙ take-append_seam text rest
