-- What is told of a list's parts, one after the other.
use Rattle.std.proofs.Common.{◌≡◌, ℕ, zero, suc, ◌+◌, ◌-◌, ◌<◌, ◌≤◌, List, [], ◌∷◌, length, get_or, map, drop, drop-cons, add-one, refl, sym, ap, ◌∙◌, subst, arith}
use Rattle.vs_grammar.specs.Shapes.{Each}
use Rattle.vs_bodies.specs.declared.told.Told.{Told}
use Rattle.vs_bodies.specs.Told.{nothing, joined}
use Rattle.vs_bodies.proofs.Joins.{joined_assoc, nothing_before, nothing_behind, count_of}

abbrev pub all_of : {A : Type 0} → (A → Told) → List A → Told
all_of f [] = nothing
all_of f (x ∷ xs) = joined (f x) (all_of f xs)

-- what was told so far, with what is left, is all
pub record SoFar {A : Type 0} (f : A → Told) (xs : List A) (i left : ℕ) (so_far : Told) : Type 0 where
  pub all : joined so_far (all_of f (drop i xs)) ≡ all_of f xs
  pub within : so_far.count ≤ left

pub none_so_far : {A : Type 0} (f : A → Told) (xs : List A) (left : ℕ) (so_far : Told) → so_far ≡ nothing → SoFar f xs 0 left so_far
none_so_far f xs left so_far e =
    record { all = ap (λ t. joined t (all_of f xs)) e ∙ nothing_before (all_of f xs); within = let n : so_far.count ≡ 0 = ap (λ (t : Told). t.count) e in omega (arith, n) }

from_place : {A : Type 0} (xs : List A) (i : ℕ) (x : A) → i < length xs → x ≡ get_or xs i x → drop i xs ≡ x ∷ drop (i + 1) xs
from_place xs i x h e = drop-cons xs i x h ∙ ap (λ y. y ∷ drop (suc i) xs) (sym e) ∙ ap (λ n. x ∷ drop n xs) (sym (add-one i))

none_left : {A : Type 0} (xs : List A) (i : ℕ) → length xs ≤ i → drop i xs ≡ []
none_left [] zero h = refl
none_left [] (suc i) h = refl
none_left (x ∷ xs) zero h = absurd (omega arith)
none_left (x ∷ xs) (suc i) h = none_left xs i (omega arith)

-- with what is left from this part on
next_all : {A : Type 0} (f : A → Told) (xs : List A) (i : ℕ) (x : A) (so_far one : Told) → i < length xs → x ≡ get_or xs i x → one ≡ f x
    → joined so_far (all_of f (drop i xs)) ≡ all_of f xs → joined (joined so_far one) (all_of f (drop (i + 1) xs)) ≡ all_of f xs
next_all f xs i x so_far one h e o all =
    joined_assoc so_far one (all_of f (drop (i + 1) xs)) ∙ ap (λ t. joined so_far (joined t (all_of f (drop (i + 1) xs)))) o ∙ ap (λ ys. joined so_far (all_of f ys)) (sym (from_place xs i x h e)) ∙ all

pub one_more : {A : Type 0} (f : A → Told) (xs : List A) (i left : ℕ) (x : A) (so_far one sum : Told) → i < length xs → x ≡ get_or xs i x → one ≡ f x → one.count ≤ left - so_far.count → sum ≡ joined so_far one
    → SoFar f xs i left so_far → SoFar f xs (i + 1) left sum
one_more f xs i left x so_far one sum h e o w s before = record {
  all = ap (λ t. joined t (all_of f (drop (i + 1) xs))) s ∙ next_all f xs i x so_far one h e o before.all;
  within = let n = count_of sum so_far one s in let m = before.within in omega (arith, n, m);
}

pub none_more : {A : Type 0} (f : A → Told) (xs : List A) (i left : ℕ) (so_far : Told) → length xs ≤ i → SoFar f xs i left so_far → so_far ≡ all_of f xs
none_more f xs i left so_far h before = sym (nothing_behind so_far) ∙ ap (λ ys. joined so_far (all_of f ys)) (sym (none_left xs i h)) ∙ before.all

-- one part is too many, so all are
pub too_many : {A : Type 0} (f : A → Told) (xs : List A) (i left : ℕ) (x : A) (so_far : Told) → i < length xs → x ≡ get_or xs i x → left - so_far.count < (f x).count → SoFar f xs i left so_far
    → left < (all_of f xs).count
too_many f xs i left x so_far h e over before =
    let n = count_of (all_of f xs) (joined so_far (f x)) (all_of f (drop (i + 1) xs)) (sym (next_all f xs i x so_far (f x) h e refl before.all)) in
    let m = before.within in
    omega (arith, n, m)

each_get : {A B : Type 0} (P : B → Type 0) (f : A → B) (xs : List A) (i : ℕ) (d : A) → i < length xs → Each P (map f xs) → P (f (get_or xs i d))
each_get P f [] i d h all = absurd (let none : ⊥ = omega (arith, h) in none)
each_get P f (x ∷ xs) zero d h all = all.0
each_get P f (x ∷ xs) (suc i) d h all = each_get P f xs i d (omega (arith, h)) all.1

-- what holds of each holds of one
pub each_at : {A B : Type 0} (P : B → Type 0) (f : A → B) (xs : List A) (i : ℕ) (x : A) → i < length xs → x ≡ get_or xs i x → Each P (map f xs) → P (f x)
each_at P f xs i x h e all = subst (λ y. P (f y)) (sym e) (each_get P f xs i x h all)
