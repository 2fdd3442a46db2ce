-- How many columns each input has.
use Rattle.std.proofs.Common.{◌≡◌, ◌≢◌, ℕ, zero, suc, ◌+◌, ◌<◌, ◌≤◌, Bool, true, false, ◌&&◌, cond, List, [], ◌∷◌, ◌++◌, length, refl, ap, sym, ◌∙◌, arith, nat_eq, get_or, length-set, eq-eqb, eqb-true, get_or-set_same, get_or-set_other, ◌⊎◌, inl, inr}
use Rattle.std.proofs.lemmas.Bool.Decides.{eqb_tells}
use Rattle.std.proofs.lemmas.List.Elements.{recursion_from_All}
use Rattle.std.specs.Prelude.{slice_set, All}
use Rattle.std.specs.List.{AllByRecursion}
use Rattle.vs_stim.specs.declared.input.Column.{Column}
use Rattle.std.proofs.lemmas.List.{length-map}
use Rattle.vs_stim.specs.declared.input.Input.{Input}
use Rattle.vs_stim.specs.Header.{lengths, count_of, each_once}
use Rattle.vs_stim.specs.Row.{Values, sizes, IsColumn}
use Rattle.vs_stim.specs.Heading.{AreCounts}

-- a column at the end counts for its input
pub count_of-push : (j : ℕ) (cs : List Column) (c : Column) → count_of j (cs ++ c ∷ []) ≡ count_of j cs + cond (nat_eq c.input j) 1 0
count_of-push j [] c = go (nat_eq c.input j)
  where
    go : (b : Bool) → (elim b as (λ _. ℕ) [ true ↦ 0 + 1 | false ↦ 0 ]) ≡ 0 + cond b 1 0
    go true = refl
    go false = refl
count_of-push j (d ∷ cs) c = go (nat_eq d.input j) (count_of-push j cs c)
  where
    go : (b : Bool) → count_of j (cs ++ c ∷ []) ≡ count_of j cs + cond (nat_eq c.input j) 1 0 → (elim b as (λ _. ℕ) [ true ↦ count_of j (cs ++ c ∷ []) + 1 | false ↦ count_of j (cs ++ c ∷ []) ]) ≡ (elim b as (λ _. ℕ) [ true ↦ count_of j cs + 1 | false ↦ count_of j cs ]) + cond (nat_eq c.input j) 1 0
    go true h = omega (arith, h)
    go false h = h

pub count_of-le : (j : ℕ) (cs : List Column) → count_of j cs ≤ length cs
count_of-le j [] = omega arith
count_of-le j (c ∷ cs) = go (nat_eq c.input j) (count_of-le j cs)
  where
    go : (b : Bool) → count_of j cs ≤ length cs → (elim b as (λ _. ℕ) [ true ↦ count_of j cs + 1 | false ↦ count_of j cs ]) ≤ length (c ∷ cs)
    go true h = omega arith
    go false h = omega arith

-- one more column
pub counts_push : (n : ℕ) (counts : List ℕ) (cs : List Column) (c : Column) → AreCounts n counts cs → c.input < n → AreCounts n (slice_set counts c.input (get_or counts c.input 0 + 1)) (cs ++ c ∷ [])
counts_push n counts cs c h k = record {
  length = length-set counts c.input (get_or counts c.input 0 + 1) ∙ h.length;
  each = λ j l. go j l (eqb_tells c.input j);
}
  where
    go : (j : ℕ) → j < n → ((nat_eq c.input j ≡ true) × (c.input ≡ j)) ⊎ ((nat_eq c.input j ≡ false) × (c.input ≢ j)) → get_or (slice_set counts c.input (get_or counts c.input 0 + 1)) j 0 ≡ count_of j (cs ++ c ∷ [])
    go j l (inl t) =
        let here : c.input < length counts = omega (arith, h.length, k) in
        let was : get_or counts c.input 0 ≡ count_of c.input cs = h.each c.input k in
        rw (← t.1) (get_or-set_same counts c.input (get_or counts c.input 0 + 1) 0 here ∙ ap (λ k. k + 1) was ∙ sym (count_of-push c.input cs c ∙ ap (λ b. count_of c.input cs + cond b 1 0) (eq-eqb c.input c.input refl)))
    go j l (inr t) = get_or-set_other counts c.input j (get_or counts c.input 0 + 1) 0 (λ e. t.1 (sym e)) ∙ h.each j l ∙ sym (count_of-push j cs c ∙ ap (λ b. count_of j cs + cond b 1 0) t.0 ∙ omega arith)

-- an input without its one column
pub not_once : (n k : ℕ) (cs : List Column) → k < n → count_of k cs ≢ 1 → each_once n cs ≡ false
not_once zero k cs lt h = absurd (omega arith)
not_once (suc n) k cs lt h = go (eqb_tells k n) (not_once n k cs)
  where
    last : (b c : Bool) → (b ≡ true → c ≡ false) → (b && c) ≡ false
    last true c f = f refl
    last false c f = refl

    first : (b c : Bool) → (b ≡ true → ⊥) → (b && c) ≡ false
    first true c f = absurd (f refl)
    first false c f = refl

    go : ((nat_eq k n ≡ true) × (k ≡ n)) ⊎ ((nat_eq k n ≡ false) × (k ≢ n)) → (k < n → count_of k cs ≢ 1 → each_once n cs ≡ false) → (nat_eq (count_of n cs) 1 && each_once n cs) ≡ false
    go (inl t) f = first (nat_eq (count_of n cs) 1) (each_once n cs) (λ e. h (rw t.1 (eqb-true (count_of n cs) 1 e)))
    go (inr t) f = last (nat_eq (count_of n cs) 1) (each_once n cs) (λ _. f (omega (arith, t.1)) h)

-- how many columns the first n inputs have
pub total : ℕ → List Column → ℕ
total zero cs = 0
total (suc n) cs = count_of n cs + total n cs

total-none : (n : ℕ) → total n [] ≡ 0
unfolding total
total-none zero = refl
total-none (suc n) = omega (arith, total-none n)

total-past : (n : ℕ) (c : Column) (cs : List Column) → n ≤ c.input → total n (c ∷ cs) ≡ total n cs
unfolding total
total-past zero c cs h = refl
total-past (suc n) c cs h = go (eqb_tells c.input n) (total-past n c cs)
  where
    go : ((nat_eq c.input n ≡ true) × (c.input ≡ n)) ⊎ ((nat_eq c.input n ≡ false) × (c.input ≢ n)) → (n ≤ c.input → total n (c ∷ cs) ≡ total n cs) → count_of n (c ∷ cs) + total n (c ∷ cs) ≡ count_of n cs + total n cs
    go (inl t) f = absurd (omega (arith, t.1))
    go (inr t) f = rw (t.0, count_of) (omega (arith, f (omega arith)))

total-cons : (n : ℕ) (c : Column) (cs : List Column) → c.input < n → total n (c ∷ cs) ≡ total n cs + 1
unfolding total
total-cons zero c cs h = absurd (omega arith)
total-cons (suc n) c cs h = go (eqb_tells c.input n) (total-cons n c cs)
  where
    go : ((nat_eq c.input n ≡ true) × (c.input ≡ n)) ⊎ ((nat_eq c.input n ≡ false) × (c.input ≢ n)) → (c.input < n → total n (c ∷ cs) ≡ total n cs + 1) → count_of n (c ∷ cs) + total n (c ∷ cs) ≡ count_of n cs + total n cs + 1
    go (inl t) f = rw (t.0, count_of) (omega (arith, total-past n c cs (omega (arith, t.1))))
    go (inr t) f = rw (t.0, count_of) (omega (arith, f (omega (arith, t.1))))

total-all : (lengths : List ℕ) (cs : List Column) → AllByRecursion (IsColumn lengths) cs → total (length lengths) cs ≡ length cs
total-all lengths [] h = total-none (length lengths)
total-all lengths (c ∷ cs) h = total-cons (length lengths) c cs h.0.known ∙ omega (arith, total-all lengths cs h.1)

pub both : (a b : Bool) → (a && b) ≡ true → (a ≡ true) × (b ≡ true)
both true b h = (refl, h)
both false b h = absurd (cc)

total-once : (n : ℕ) (cs : List Column) → each_once n cs ≡ true → total n cs ≡ n
unfolding total
total-once zero cs h = refl
total-once (suc n) cs h =
    let p = both (nat_eq (count_of n cs) 1) (each_once n cs) h in
    omega (arith, eqb-true (count_of n cs) 1 p.0, total-once n cs p.1)

-- Where each input has one column, and no other has one, there are as many columns as inputs.
pub length-each_once : (lengths : List ℕ) (cs : List Column) → All (IsColumn lengths) cs → each_once (length lengths) cs ≡ true → length cs ≡ length lengths
length-each_once lengths cs h k = sym (total-all lengths cs (recursion_from_All (IsColumn lengths) cs h)) ∙ total-once (length lengths) cs k

-- Values of the inputs' lengths, and a column for each input.
pub each_made : (is : List Input) (cs : List Column) (vs : Values) → sizes vs ≡ lengths is → All (IsColumn (lengths is)) cs → each_once (length is) cs ≡ true → (nat_eq (length (sizes vs)) (length cs) && each_once (length cs) cs) ≡ true
each_made is cs vs e h k =
    let many : length (lengths is) ≡ length is = length-map is (λ i. i.length) in
    let k' : each_once (length (lengths is)) cs ≡ true = rw many k in
    let same : length cs ≡ length (lengths is) = length-each_once (lengths is) cs h k' in
    rw (e, same, k') (rw (eq-eqb (length (lengths is)) (length (lengths is)) refl) refl)
