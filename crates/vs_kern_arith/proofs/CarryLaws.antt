-- Carries and digits, place by place.
use Rattle.std.proofs.Common.{◌≡◌, ℕ, zero, suc, ◌+◌, ◌<◌, Bool, true, false, ◌&&◌, ◌||◌, get_or, refl, ap, ap₂, ◌∙◌, arith, add-one}
use Rattle.std.specs.List.{range_with_len}
use Rattle.std.proofs.lemmas.List.{get_or-map}
use Rattle.std.proofs.lemmas.List.FromFn.{get_or-range_with_len, length-range_with_len}
use Rattle.vs_four.specs.declared.Bit4.{Bit4}
use Rattle.vs_four.specs.declared.Bit4.TheVariants.{X}
use Rattle.vs_plane.specs.Bits.{differ}
use Rattle.vs_kern_arith.specs.Digits.{carry_of, carry_into, first_bits}

pub carry_first : (g p : ℕ → Bool) (c : Bool) → carry_into g p c 0 ≡ c
unfolding carry_into
carry_first g p c = refl

pub carry_next : (g p : ℕ → Bool) (c : Bool) (k : ℕ) → carry_into g p c (k + 1) ≡ (g k || (p k && carry_into g p c k))
unfolding carry_into
carry_next g p c k = ap (λ (m : ℕ). carry_into g p c m) (add-one k)

-- the carry depends on the places below alone
pub carry_same : (g p h q : ℕ → Bool) (c d : Bool) (k : ℕ) → c ≡ d
    → ((j : ℕ) → j < k → g j ≡ h j) → ((j : ℕ) → j < k → p j ≡ q j) → carry_into g p c k ≡ carry_into h q d k
unfolding carry_into
carry_same g p h q c d zero e f r = e
carry_same g p h q c d (suc k) e f r =
    ap₂ ◌||◌ (f k (omega arith)) (ap₂ ◌&&◌ (r k (omega arith)) (carry_same g p h q c d k e (λ j l. f j (omega arith)) (λ j l. r j (omega arith))))

-- the carry of a sum of two digits is generated, or passed on
pub carry_of_is : (x y c : Bool) → carry_of x y c ≡ ((x && y) || (differ x y && c))
carry_of_is true true c = refl
carry_of_is true false c = refl
carry_of_is false true c = refl
carry_of_is false false c = refl

-- the bit at a place of a value that is given place by place
pub bit_at_place : (f : ℕ → Bit4) (w j : ℕ) → j < w → get_or (first_bits f w) j X ≡ f j
unfolding first_bits
bit_at_place f w j h =
    let at : get_or (range_with_len 0 w) j 0 ≡ j = get_or-range_with_len 0 w j 0 h ∙ omega arith in
    get_or-map f (range_with_len 0 w) j 0 X (omega (arith, h, length-range_with_len 0 w)) ∙ ap f at
