-- The signal that has a bit.
use Rattle.std.proofs.Common.{◌≡◌, ℕ, zero, suc, ◌+◌, ◌-◌, ◌<◌, ◌≤◌, Bool, true, false, ◌||◌, ◌==◌, nat_lt, if◌then◌else◌, List, [], ◌∷◌, refl, ap, ◌∙◌, subst, eqb-true, eq-eqb, get_or, length, arith}
use Rattle.std.proofs.lemmas.Bool.{ltb-true, lt-ltb, ltb-false}
use Rattle.vs_design.specs.Expressions.{Signal}
use Rattle.vs_design.specs.Footprints.{contains}
use Rattle.vs_design.specs.Values.{count_from, bits_of_signal}
use Rattle.vs_design.specs.Refusals.{signal_of}
use Rattle.vs_reads.proofs.Tests.{by_test, either_way, same_test, or_right}

-- a number is among those from the first on where it is no smaller, and smaller than the end
counted : (first count b : ℕ) → contains (count_from first count) b ≡ true → (first ≤ b) × (b < first + count)
counted first zero b h = cc
counted first (suc count) b h =
    by_test (b == first)
    (λ e. let s = eqb-true b first e in (omega (arith, s), omega (arith, s)))
    (λ e. let r = counted (suc first) count b (subst (λ t. (t || contains (count_from (suc first) count) b) ≡ true) e h) in (omega (arith, r.0), omega (arith, r.1)))

counts : (first count b : ℕ) → first ≤ b → b < first + count → contains (count_from first count) b ≡ true
counts first zero b h k = absurd (omega (arith, h, k))
counts first (suc count) b h k =
    by_test (b == first)
    (λ e. ap {B = Bool} (λ t. t || contains (count_from (suc first) count) b) e)
    (λ e. or_right (b == first) (contains (count_from (suc first) count) b) (counts (suc first) count b (above e) (omega (arith, k))))
  where
    above : (b == first) ≡ false → suc first ≤ b
    above e =
        by_test (nat_lt first b)
        (λ l. let m = ltb-true first b l in omega (arith, m))
        (λ l. let m = ltb-false first b l in let same : b ≡ first = omega (arith, h, m) in either_way (b == first) (eq-eqb b first same) e)

pub within : (first count b : ℕ) → first ≤ b → nat_lt (b - first) count ≡ contains (count_from first count) b
within first count b h =
    same_test (nat_lt (b - first) count) (contains (count_from first count) b)
    (λ e. let l = ltb-true (b - first) count e in counts first count b h (omega (arith, h, l)))
    (λ e. let r = counted first count b e in lt-ltb (b - first) count (omega (arith, h, r.1)))

pub before : (first count b : ℕ) → b < first → contains (count_from first count) b ≡ false
before first count b h = by_test (contains (count_from first count) b) (λ e. absurd (let r = counted first count b e in omega (arith, h, r.0))) (λ e. e)

-- the first signal that has the bit
pub signal_is : (signals : List Signal) (b n : ℕ) (d : Signal) → n < length signals → contains (bits_of_signal (get_or signals n d)) b ≡ true → ((q : ℕ) → q < n → contains (bits_of_signal (get_or signals q d)) b ≡ false) → signal_of signals b ≡ (get_or signals n d).number
signal_is [] b n d h here none = absurd (omega (arith, h))
signal_is (s ∷ ss) b zero d h here none = rw here refl
signal_is (s ∷ ss) b (suc n) d h here none = ap (λ (t : Bool). if t then s.number else signal_of ss b) (none 0 (omega arith)) ∙ signal_is ss b n d (omega (arith, h)) here (λ q l. none (suc q) (omega (arith, l)))

pub no_signal_is : (signals : List Signal) (b : ℕ) (d : Signal) → ((q : ℕ) → q < length signals → contains (bits_of_signal (get_or signals q d)) b ≡ false) → signal_of signals b ≡ 0
no_signal_is [] b d none = refl
no_signal_is (s ∷ ss) b d none = ap (λ (t : Bool). if t then s.number else signal_of ss b) (none 0 (omega arith)) ∙ no_signal_is ss b d (λ q l. none (suc q) (omega (arith, l)))
