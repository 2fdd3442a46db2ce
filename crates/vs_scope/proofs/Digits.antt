-- The digits of a number.
use Rattle.std.proofs.Common.{◌≡◌, ◌<◌, ◌≤◌, ◌+◌, ◌/◌, ◌%◌, ℕ, zero, suc, List, [], ◌∷◌, ◌++◌, refl, sym, ap, ◌∙◌, append_assoc, arith}
use Rattle.vs_elaborated.specs.Generate.{digits_before}

pub digits_behind : (left n : ℕ) (later : List ℕ) → digits_before left n later ≡ digits_before left n [] ++ later
digits_behind zero n later = refl
digits_behind (suc left) n later = by (n / 10) (digits_behind left (n / 10) ((48 + n % 10) ∷ later)) (digits_behind left (n / 10) ((48 + n % 10) ∷ []))
  where
    by : (q : ℕ) → digits_before left (n / 10) ((48 + n % 10) ∷ later) ≡ digits_before left (n / 10) [] ++ (48 + n % 10) ∷ later → digits_before left (n / 10) ((48 + n % 10) ∷ []) ≡ digits_before left (n / 10) [] ++ (48 + n % 10) ∷ []
        → (elim q as (λ z. List ℕ) [ zero ↦ (48 + n % 10) ∷ later | suc m ↦ digits_before left (n / 10) ((48 + n % 10) ∷ later) ])
        ≡ (elim q as (λ z. List ℕ) [ zero ↦ (48 + n % 10) ∷ [] | suc m ↦ digits_before left (n / 10) ((48 + n % 10) ∷ []) ]) ++ later
    by zero h k = refl
    by (suc m) h k = h ∙ sym (append_assoc (digits_before left (n / 10) []) ((48 + n % 10) ∷ []) later) ∙ ap (λ (x : List ℕ). x ++ later) (sym k)

-- the last digit behind the others
pub digits_more : (left l n : ℕ) → left ≡ suc l → 10 ≤ n → digits_before left n [] ≡ digits_before l (n / 10) [] ++ (48 + n % 10) ∷ []
digits_more left l n e h = ap (λ (x : ℕ). digits_before x n []) e ∙ by (n / 10) (let k : 1 ≤ n / 10 = omega (arith, h) in k) ∙ digits_behind l (n / 10) ((48 + n % 10) ∷ [])
  where
    by : (q : ℕ) → 1 ≤ q → (elim q as (λ z. List ℕ) [ zero ↦ (48 + n % 10) ∷ [] | suc m ↦ digits_before l (n / 10) ((48 + n % 10) ∷ []) ]) ≡ digits_before l (n / 10) ((48 + n % 10) ∷ [])
    by zero k = absurd (omega (arith, k))
    by (suc m) k = refl

-- a number of one digit
pub digits_one : (left l n : ℕ) → left ≡ suc l → n < 10 → digits_before left n [] ≡ (48 + n % 10) ∷ []
digits_one left l n e h = ap (λ (x : ℕ). digits_before x n []) e ∙ by (n / 10) (let k : n / 10 ≡ 0 = omega (arith, h) in k)
  where
    by : (q : ℕ) → q ≡ 0 → (elim q as (λ z. List ℕ) [ zero ↦ (48 + n % 10) ∷ [] | suc m ↦ digits_before l (n / 10) ((48 + n % 10) ∷ []) ]) ≡ (48 + n % 10) ∷ []
    by zero k = refl
    by (suc m) k = absurd (omega (arith, k))
