-- Rising lists of numbers: two with the same members are the same.
use Rattle.std.proofs.Common.{◌≡◌, ℕ, zero, suc, ◌+◌, ◌<◌, ◌≤◌, ◌==◌, ◌||◌, ◌&&◌, nat_lt, cond, Bool, true, false, List, [], ◌∷◌, get_or, refl, sym, ap, ◌∙◌, subst, arith, eqb}
use Rattle.std.specs.List.{dedup, dedup_from}
use Rattle.std.specs.List.Sorted.{IsStrictlyIncreasing}
use Rattle.std.proofs.lemmas.Bool.{eqb-true, lt-ltb}
use Rattle.vs_design.specs.Footprints.{contains, ascending}
use Rattle.vs_design.specs.Laws.{AscendingHas, AscendingRises}

tail_rises : (x : ℕ) (xs : List ℕ) → IsStrictlyIncreasing (x ∷ xs) → IsStrictlyIncreasing xs
tail_rises x xs h k l =
    let next : suc k + 1 ≡ suc (k + 1) = omega arith in
    let P : ℕ → Type 0 = λ n. get_or xs k 0 < get_or (x ∷ xs) n 0 in
    subst P next (h (suc k) (omega arith))

head_less : (x y : ℕ) (xs : List ℕ) → IsStrictlyIncreasing (x ∷ y ∷ xs) → x < y
head_less x y xs h =
    let next : 0 + 1 ≡ suc zero = omega arith in
    let P : ℕ → Type 0 = λ n. x < get_or (x ∷ y ∷ xs) n 0 in
    subst P next (h 0 (omega arith))

-- the first is below all others
first_less : (x : ℕ) (xs : List ℕ) (b : ℕ) → IsStrictlyIncreasing (x ∷ xs) → contains xs b ≡ true → x < b
first_less x [] b r h = cc
first_less x (y ∷ xs) b r h = cases (b == y) refl (λ k. first_less y xs b (tail_rises x (y ∷ xs) r) k) h
  where
    cases : (c : Bool) → (b == y) ≡ c → (contains xs b ≡ true → y < b) → (c || contains xs b) ≡ true → x < b
    cases true e f k = let same = eqb-true b y e in omega (arith, same, head_less x y xs r)
    cases false e f k = omega (arith, head_less x y xs r, f k)

same_number : (b : ℕ) → (b == b) ≡ true
same_number b = grind arith

in_head : (x : ℕ) (xs : List ℕ) → contains (x ∷ xs) x ≡ true
in_head x xs = ap (λ c. c || contains xs x) (same_number x)

-- not among those that are above it
not_above : (x : ℕ) (xs : List ℕ) → IsStrictlyIncreasing (x ∷ xs) → contains xs x ≡ false
not_above x xs r = cases (contains xs x) refl
  where
    cases : (c : Bool) → contains xs x ≡ c → contains xs x ≡ false
    cases true e = absurd (never (first_less x xs x r e))
      where
        never : x < x → ⊥
        never h = omega arith
    cases false e = e

among_rest : (b x : ℕ) (xs : List ℕ) → contains (x ∷ xs) b ≡ true → (b == x) ≡ false → contains xs b ≡ true
among_rest b x xs h e = ap (λ c. c || contains xs b) (sym e) ∙ h

pub same_rising : (xs ys : List ℕ) → IsStrictlyIncreasing xs → IsStrictlyIncreasing ys → ((b : ℕ) → contains xs b ≡ contains ys b) → xs ≡ ys
same_rising [] [] r s h = refl
same_rising [] (y ∷ ys) r s h = absurd (never (h y ∙ in_head y ys))
  where
    never : false ≡ true → ⊥
    never e = cc
same_rising (x ∷ xs) [] r s h = absurd (never (sym (h x) ∙ in_head x xs))
  where
    never : false ≡ true → ⊥
    never e = cc
same_rising (x ∷ xs) (y ∷ ys) r s h = ap (λ n. n ∷ xs) heads ∙ ap (λ zs. y ∷ zs) (same_rising xs ys (tail_rises x xs r) (tail_rises y ys s) rest)
  where
    one_way : (x y : ℕ) (xs ys : List ℕ) → IsStrictlyIncreasing (x ∷ xs) → IsStrictlyIncreasing (y ∷ ys) → ((b : ℕ) → contains (x ∷ xs) b ≡ contains (y ∷ ys) b) → y ≤ x
    one_way x y xs ys r s h = cases (x == y) refl
      where
        cases : (c : Bool) → (x == y) ≡ c → y ≤ x
        cases true e = let same = eqb-true x y e in omega (arith, same)
        cases false e = let less = first_less y ys x s (among_rest x y ys (sym (h x) ∙ in_head x xs) e) in omega (arith, less)

    heads : x ≡ y
    heads = let a = one_way x y xs ys r s h in let b = one_way y x ys xs s r (λ n. sym (h n)) in omega (arith, a, b)

    rest : (b : ℕ) → contains xs b ≡ contains ys b
    rest b = cases (b == x) refl
      where
        cases : (c : Bool) → (b == x) ≡ c → contains xs b ≡ contains ys b
        cases true e =
            let same = eqb-true b x e in
            ap (contains xs) same ∙ not_above x xs r ∙ sym (not_above y ys s) ∙ ap (contains ys) (sym (same ∙ heads))
        cases false e =
            let other : (b == y) ≡ false = ap (λ n. b == n) (sym heads) ∙ e in
            ap (λ c. c || contains xs b) (sym e) ∙ h b ∙ ap (λ c. c || contains ys b) other

twice : (a c : Bool) → (a || c) ≡ (a || (a || c))
twice true c = refl
twice false c = refl

contains-dedup_from : (k : ℕ) (xs : List ℕ) (b : ℕ) → contains (dedup_from eqb k xs) b ≡ ((b == k) || contains xs b)
contains-dedup_from k [] b = refl
contains-dedup_from k (x ∷ xs) b = cases (eqb x k) refl (contains-dedup_from k xs b) (contains-dedup_from x xs b)
  where
    cases : (c : Bool) → eqb x k ≡ c → contains (dedup_from eqb k xs) b ≡ ((b == k) || contains xs b) → contains (dedup_from eqb x xs) b ≡ ((b == x) || contains xs b)
        → contains (cond c (dedup_from eqb k xs) (k ∷ dedup_from eqb x xs)) b ≡ ((b == k) || ((b == x) || contains xs b))
    cases true e f g = f ∙ twice (b == k) (contains xs b) ∙ ap (λ n. (b == k) || ((b == n) || contains xs b)) (sym (eqb-true x k e))
    cases false e f g = ap (λ c. (b == k) || c) g

pub contains-dedup : (xs : List ℕ) (b : ℕ) → contains (dedup eqb xs) b ≡ contains xs b
contains-dedup [] b = refl
contains-dedup (x ∷ xs) b = contains-dedup_from x xs b

within : (a c : Bool) → (a ≡ true → c ≡ true) → a ≡ (a && c)
within true c h = sym (h refl)
within false c h = refl

-- the rising list of these bits is their ascending list
pub is_ascending : AscendingHas → AscendingRises → (bits all : List ℕ) → IsStrictlyIncreasing bits → ((b : ℕ) → contains bits b ≡ contains all b) → (count : ℕ) → ((b : ℕ) → contains all b ≡ true → b < count) → bits ≡ ascending count all
is_ascending has rises bits all r same count below =
    same_rising bits (ascending count all) r (rises count all) (λ b. same b ∙ within (contains all b) (nat_lt b count) (λ h. lt-ltb b count (below b h)) ∙ sym (has count all b))
