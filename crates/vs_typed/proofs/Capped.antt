-- Sums and products as far as 2^64 - 1.
use Rattle.std.proofs.Common.{◌≡◌, ℕ, zero, suc, ◌+◌, ◌*◌, ◌≤◌, ◌<◌, Bool, true, false, if◌then◌else◌, sym, ap, ◌∙◌, arith, ◌⊎◌, inl, inr}
use Rattle.std.proofs.lemmas.Bool.{cases_lt}
use Rattle.vs_typed.specs.Weights.{capped}

pub times_capped : (a b : ℕ) → capped (a * capped b) ≡ capped (a * b)
times_capped zero b = let k : zero * capped b ≡ 0 = omega arith in let l : zero * b ≡ 0 = omega arith in ap capped (k ∙ sym l)
times_capped (suc a) b = ap capped (split (capped b)) ∙ at (cases_lt 18446744073709551615 b) ∙ ap capped (sym (split b))
  where
    split : (x : ℕ) → suc a * x ≡ x + a * x
    split x = grind arith

    at : (18446744073709551615 < b) ⊎ (b ≤ 18446744073709551615) → capped (capped b + a * capped b) ≡ capped (b + a * b)
    at (inl over) = let e : capped b ≡ 18446744073709551615 = omega (arith, over) in omega (arith, over, e)
    at (inr under) = let e : capped b ≡ b = omega (arith, under) in ap (λ n. capped (n + a * n)) e

-- a total with a weight of its own before another one, where the operand isn't constant
pub own_added : (constant : Bool) (total own more after : ℕ) → constant ≡ false → after ≡ capped (capped (total + capped own) + more) → after ≡ capped (total + (if constant then 0 else (own + more)))
own_added true total own more after differs h = absurd (let z : ⊥ = cc in z)
own_added false total own more after differs h = omega (arith, h)
