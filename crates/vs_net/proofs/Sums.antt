-- Sums below a number.
use Rattle.std.proofs.Common.{◌≡◌, ◌≢◌, ℕ, zero, suc, ◌+◌, ◌<◌, ◌≤◌, refl, sym, ◌∙◌, subst, arith}
use Rattle.vs_net.specs.Bound.{sum_below}
use Rattle.vs_net.proofs.Basics.{same_number}

pub sum_same : (k : ℕ) (f g : ℕ → ℕ) → ((x : ℕ) → x < k → f x ≡ g x) → sum_below k f ≡ sum_below k g
sum_same zero f g h = refl
sum_same (suc k) f g h = let a = sum_same k f g (λ x l. h x (omega arith)) in let b = h k (omega arith) in omega arith

pub sum_le : (k : ℕ) (f g : ℕ → ℕ) → ((x : ℕ) → x < k → f x ≤ g x) → sum_below k f ≤ sum_below k g
sum_le zero f g h = omega arith
sum_le (suc k) f g h = let a = sum_le k f g (λ x l. h x (omega arith)) in let b = h k (omega arith) in omega arith

-- one term rises by d
pub sum_up : (k p d : ℕ) (f g : ℕ → ℕ) → p < k → ((x : ℕ) → x ≢ p → g x ≡ f x) → g p ≡ f p + d → sum_below k g ≡ sum_below k f + d
sum_up zero p d f g l h e = omega arith
sum_up (suc k) p d f g l h e = same_number p k
    (λ s. let a = sum_same k g f (λ x lx. h x (λ t. let z = t ∙ s in omega arith)) in
    let b : g k ≡ f k + d = subst (λ (y : ℕ). g y ≡ f y + d) s e in omega arith)
    (λ ne. let lt : p < k = omega arith in let a = sum_up k p d f g lt h e in let b = h k (λ t. ne (sym t)) in omega arith)

-- no term falls, and one rises
pub sum_lt : (k p : ℕ) (f g : ℕ → ℕ) → p < k → ((x : ℕ) → f x ≤ g x) → f p + 1 ≤ g p → sum_below k f + 1 ≤ sum_below k g
sum_lt zero p f g l h e = omega arith
sum_lt (suc k) p f g l h e = same_number p k
    (λ s. let a = sum_le k f g (λ x lx. h x) in let b : f k + 1 ≤ g k = subst (λ (y : ℕ). f y + 1 ≤ g y) s e in omega arith)
    (λ ne. let lt : p < k = omega arith in let a = sum_lt k p f g lt h e in let b = h k in omega arith)

pub sum_add : (k : ℕ) (f g : ℕ → ℕ) → sum_below k (λ x. f x + g x) ≡ sum_below k f + sum_below k g
sum_add zero f g = refl
sum_add (suc k) f g = let a = sum_add k f g in omega arith
