-- Lengths of wholes, as far as 65.
use Rattle.std.proofs.Common.{◌≡◌, ℕ, zero, suc, ◌*◌, ◌≤◌, ◌<◌, min, ◌⊎◌, inl, inr, Bool, true, false, nat_lt, refl, arith, ap, ◌∙◌}
use Rattle.std.proofs.lemmas.Bool.{ltb-true, ltb-false}
use Rattle.std.proofs.Math.Nat.{mul-le-mul_right, mul-le-mul_left}
use Rattle.vs_design.specs.Expressions.{UnaryOp, Plus, Minus, BitNot, Signed, Unsigned, Way, InContext, Own, Compared, Shifted, Raised, unary_length, binary_length}

many : (m k : ℕ) → 65 ≤ m → 1 ≤ k → 65 ≤ m * k
many m k h i = let e : m * 1 ≤ m * k = mul-le-mul_left m i in omega (arith, e)

wide : (m k : ℕ) → 1 ≤ m → 65 ≤ k → 65 ≤ m * k
wide m k h i = let e : 1 * k ≤ m * k = mul-le-mul_right k h in omega (arith, e)

both_over : (x y : ℕ) → 65 ≤ x → 65 ≤ y → min 65 x ≡ min 65 y
both_over x y h k = omega arith

or_over : (n : ℕ) → (n ≤ 65) ⊎ (65 < n)
or_over n = of (nat_lt 65 n) refl
  where
    of : (b : Bool) → nat_lt 65 n ≡ b → (n ≤ 65) ⊎ (65 < n)
    of true e = inr (ltb-true 65 n e)
    of false e = inl (ltb-false 65 n e)

-- copies of something long, or very many of something, have over 64 bits
pub min_times : (n w : ℕ) → min 65 (min 65 n * min 65 w) ≡ min 65 (n * w)
min_times zero w = omega arith
min_times n zero = omega arith
min_times (suc n) (suc w) = of (or_over (suc n)) (or_over (suc w))
  where
    of : (suc n ≤ 65) ⊎ (65 < suc n) → (suc w ≤ 65) ⊎ (65 < suc w) → min 65 (min 65 (suc n) * min 65 (suc w)) ≡ min 65 (suc n * suc w)
    of (inl h) (inl k) = let e : min 65 (suc n) ≡ suc n = omega arith in let f : min 65 (suc w) ≡ suc w = omega arith in ap (λ a. min 65 (a * min 65 (suc w))) e ∙ ap (λ b. min 65 (suc n * b)) f
    of (inr h) k = both_over _ _ (many (min 65 (suc n)) (min 65 (suc w)) (omega arith) (omega arith)) (many (suc n) (suc w) (omega arith) (omega arith))
    of (inl h) (inr k) = both_over _ _ (wide (min 65 (suc n)) (min 65 (suc w)) (omega arith) (omega arith)) (wide (suc n) (suc w) (omega arith) (omega arith))

-- an operator's result is as long of lengths that are told as far as 65
pub capped_unary : (op : UnaryOp) (n : ℕ) → unary_length op (min 65 n) ≡ min 65 (unary_length op n)
capped_unary Plus n = refl
capped_unary Minus n = refl
capped_unary BitNot n = refl
capped_unary Signed n = refl
capped_unary Unsigned n = refl
capped_unary _ n = refl

pub capped_binary : (w : Way) (m n : ℕ) → binary_length w (min 65 m) (min 65 n) ≡ min 65 (binary_length w m n)
capped_binary InContext m n = omega arith
capped_binary Shifted m n = refl
capped_binary Raised m n = refl
capped_binary Own m n = refl
capped_binary Compared m n = refl
