-- The digits of a byte, as they are computed: the definition and the code agree at each of the 256 bytes.
use Rattle.std.proofs.Common.{◌≡◌, ℕ, zero, suc, ◌*◌, ◌/◌, ◌%◌, ◌^◌, ◌<◌, Bool, true, false, ◌&&◌, ◌==◌, List, [], ◌∷◌, map, reverse, refl, ◌∙◌, ap, arith, inl, inr}
use Rattle.std.specs.Prelude.{bit_and, bit_or, bit_xor}
use Rattle.std.specs.Int.{to_le_bytes, w32, w64}
use Rattle.std.proofs.lemmas.Bool.{cases_lt, and_parts, eqb-true}
use Rattle.vs_four.specs.Planes.{bits_of_planes}
use Rattle.vs_vcd.specs.Values.{digit_code}

unfoldable same : List ℕ → List ℕ → Bool
same [] [] = true
same (x ∷ xs) (y ∷ ys) = (x == y) && same xs ys
same _ _ = false

same-true : (xs ys : List ℕ) → same xs ys ≡ true → xs ≡ ys
unfolding same
same-true [] [] h = refl
same-true (x ∷ xs) (y ∷ ys) h = let parts = and_parts (x == y) (same xs ys) h in ap (λ z. z ∷ xs) (eqb-true x y parts.0) ∙ ap (λ zs. y ∷ zs) (same-true xs ys parts.1)
same-true [] (y ∷ ys) h = cc
same-true (x ∷ xs) [] h = cc

abbrev all_below : (ℕ → Bool) → ℕ → Bool
all_below p zero = true
all_below p (suc n) = p n && all_below p n

all_below-at : (p : ℕ → Bool) (n k : ℕ) → all_below p n ≡ true → k < n → p k ≡ true
all_below-at p zero k h below = absurd (omega arith)
all_below-at p (suc n) k h below =
    let parts = and_parts (p n) (all_below p n) h in
    elim (cases_lt k n) [
      | inl less ↦ all_below-at p n k parts.1 less
      | inr top ↦ let e : k ≡ n = omega arith in rw e parts.0
    ]

-- the bits of a byte, each at the end of an eight
abbrev spread : ℕ → ℕ
spread b = bit_and (b * 9241421688590303745 % 2 ^ 64) 9259542123273814144 / 2 ^ 7

-- ---- eight known digits

abbrev pub eight : ℕ → List ℕ
eight b = to_le_bytes w64 (bit_or (spread b) 3472328296227680304)

each_eight : all_below (λ b. same (eight b) (map digit_code (reverse (bits_of_planes 8 b 0)))) 256 ≡ true
unfolding bits_of_planes same
each_eight = refl

pub eight_is : (b : ℕ) → b < 256 → eight b ≡ map digit_code (reverse (bits_of_planes 8 b 0))
eight_is b h = same-true (eight b) (map digit_code (reverse (bits_of_planes 8 b 0))) (all_below-at (λ b. same (eight b) (map digit_code (reverse (bits_of_planes 8 b 0)))) 256 b each_eight h)

-- ---- four digits of any values

abbrev of_planes : ℕ → ℕ → ℕ
of_planes value unknown =
    bit_xor (bit_xor (bit_xor 808464432 value) (bit_or (bit_or (unknown * 2 ^ 1 % 2 ^ 32) (unknown * 2 ^ 3 % 2 ^ 32)) (unknown * 2 ^ 6 % 2 ^ 32))) (bit_or (bit_and value unknown * 2 ^ 1 % 2 ^ 32) (bit_and value unknown))

abbrev pub four : ℕ → List ℕ
four b = to_le_bytes w32 (of_planes (spread b / 2 ^ 32) (bit_and (spread b) 4294967295))

each_four : all_below (λ b. same (four b) (map digit_code (reverse (bits_of_planes 4 (b % 16) (b / 16))))) 256 ≡ true
unfolding bits_of_planes same
each_four = refl

pub four_is : (b : ℕ) → b < 256 → four b ≡ map digit_code (reverse (bits_of_planes 4 (b % 16) (b / 16)))
four_is b h = same-true (four b) (map digit_code (reverse (bits_of_planes 4 (b % 16) (b / 16)))) (all_below-at (λ b. same (four b) (map digit_code (reverse (bits_of_planes 4 (b % 16) (b / 16))))) 256 b each_four h)
