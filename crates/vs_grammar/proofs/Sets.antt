-- Membership.
use Rattle.std.proofs.Common.{◌≡◌, ℕ, Bool, true, false, not, ◌||◌, List, [], ◌∷◌, ◌++◌, nat_eq, refl, arith, ◌⊎◌, inl, inr}
use Rattle.std.proofs.lemmas.Bool.Decides.{nat_tests}
use Rattle.std.proofs.lemmas.Bool.{and_parts}
use Rattle.vs_grammar.specs.Predictive.{is_member, is_subset, are_disjoint}

pub or_left : (a b : Bool) → a ≡ true → (a || b) ≡ true
or_left true b e = refl
or_left false b e = cc

pub or_right : (a b : Bool) → b ≡ true → (a || b) ≡ true
or_right true b e = refl
or_right false b e = e

pub or_cases : (a b : Bool) → (a || b) ≡ true → (a ≡ true) ⊎ (b ≡ true)
or_cases true b e = inl refl
or_cases false b e = inr e

pub not_true : (a : Bool) → not a ≡ true → a ≡ false
not_true true e = cc
not_true false e = refl

pub clash : {P : Type 0} (a : Bool) → a ≡ true → a ≡ false → P
clash a p q = cc

pub mem_left : (u : ℕ) (xs ys : List ℕ) → is_member u xs ≡ true → is_member u (xs ++ ys) ≡ true
mem_left u [] ys h = cc
mem_left u (x ∷ xs) ys h = elim (or_cases (nat_eq u x) (is_member u xs) h) [ inl e ↦ or_left (nat_eq u x) _ e | inr e ↦ or_right (nat_eq u x) _ (mem_left u xs ys e) ]

pub mem_right : (u : ℕ) (xs ys : List ℕ) → is_member u ys ≡ true → is_member u (xs ++ ys) ≡ true
mem_right u [] ys h = h
mem_right u (x ∷ xs) ys h = or_right (nat_eq u x) _ (mem_right u xs ys h)

pub mem_append : (u : ℕ) (xs ys : List ℕ) → is_member u (xs ++ ys) ≡ true → (is_member u xs ≡ true) ⊎ (is_member u ys ≡ true)
mem_append u [] ys h = inr h
mem_append u (x ∷ xs) ys h = elim (or_cases (nat_eq u x) (is_member u (xs ++ ys)) h) [ inl e ↦ inl (or_left (nat_eq u x) _ e) | inr e ↦ elim (mem_append u xs ys e) [ inl k ↦ inl (or_right (nat_eq u x) _ k) | inr k ↦ inr k ] ]

same : (u x : ℕ) → nat_eq u x ≡ true → u ≡ x
same u x h = grind (arith, nat_tests)

pub same_self : (u x : ℕ) → u ≡ x → nat_eq u x ≡ true
same_self u x h = grind (arith, nat_tests)

pub mem_self : (u x : ℕ) (xs : List ℕ) → u ≡ x → is_member u (x ∷ xs) ≡ true
mem_self u x xs e = or_left (nat_eq u x) _ (same_self u x e)

pub subset_mem : (u : ℕ) (xs ys : List ℕ) → is_subset xs ys ≡ true → is_member u xs ≡ true → is_member u ys ≡ true
subset_mem u [] ys s h = cc
subset_mem u (x ∷ xs) ys s h =
    let p = and_parts (is_member x ys) (is_subset xs ys) s in
    elim (or_cases (nat_eq u x) (is_member u xs) h) [ inl e ↦ rw (same u x e) p.0 | inr e ↦ subset_mem u xs ys p.1 e ]

pub disjoint_mem : {P : Type 0} (u : ℕ) (xs ys : List ℕ) → are_disjoint xs ys ≡ true → is_member u xs ≡ true → is_member u ys ≡ true → P
disjoint_mem u [] ys s h k = cc
disjoint_mem u (x ∷ xs) ys s h k =
    let p = and_parts (not (is_member x ys)) (are_disjoint xs ys) s in
    elim (or_cases (nat_eq u x) (is_member u xs) h) [ inl e ↦ clash (is_member u ys) k (rw (same u x e) (not_true _ p.0)) | inr e ↦ disjoint_mem u xs ys p.1 e k ]
