-- Signals of one bit, by their words and their range.
use Rattle.std.proofs.Common.{◌≡◌, ◌≤◌, ℕ, zero, suc, ◌*◌, ◌==◌, Option, Some, None, refl, sym, ap, ap₂, ◌∙◌, eqb-true, arith, if◌then◌else◌}
use Rattle.std.proofs.Math.Nat.{mul-le-mul_right}
use Rattle.vs_four.specs.declared.Range.{Range}
use Rattle.vs_four.specs.Selects.{range_length}
use Rattle.vs_design.specs.Expressions.{Signal, signal_length, range_or_one, words_length}
use Rattle.vs_clock.specs.Ports.{one_bit}
use Rattle.vs_reads.proofs.Tests.{by_test}

left_one : (m n : ℕ) → m * n ≡ 1 → m ≡ 1
left_one zero n h = absurd (let z : zero * n ≡ 0 = omega arith in omega (arith, z, h))
left_one (suc zero) n h = refl
left_one (suc (suc k)) zero h = absurd (let z : suc (suc k) * zero ≡ 0 = omega arith in omega (arith, z, h))
left_one (suc (suc k)) (suc n) h = absurd (let le : 2 * suc n ≤ suc (suc k) * suc n = mul-le-mul_right (suc n) (omega arith) in omega (arith, le, h))

-- a signal has one bit where it has one word of one bit
one_of_one : (words : Option Range) (k : ℕ) → range_or_one words ≡ 1 → k ≡ 1 → words_length words k ≡ 1
one_of_one None k w h = h
one_of_one (Some r) k w h = ap₂ ◌*◌ w h

ones : (words : Option Range) (k : ℕ) → words_length words k ≡ 1 → (range_or_one words ≡ 1) × (k ≡ 1)
ones None k h = (refl, h)
ones (Some r) k h =
    let w = left_one (range_length r) k h in
    let one : 1 * k ≡ 1 = ap (λ n. n * k) (sym w) ∙ h in
    (w, omega (arith, one))

pub bit_is : (s : Signal) → range_or_one s.words ≡ 1 → range_or_one s.range ≡ 1 → one_bit s ≡ Some s.first
bit_is s w h = ap (λ n. if n == 1 then Some s.first else None) (one_of_one s.words (range_or_one s.range) w h)

pub no_bit : (s : Signal) → (range_or_one s.words ≡ 1 → range_or_one s.range ≡ 1 → ⊥) → one_bit s ≡ None
no_bit s none =
    by_test (signal_length s == 1) (λ e. absurd (let o = ones s.words (range_or_one s.range) (eqb-true (signal_length s) 1 e) in none o.0 o.1)) (λ e. ap (λ k. if k then Some s.first else None) e)
