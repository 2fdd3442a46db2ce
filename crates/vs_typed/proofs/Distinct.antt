-- How many different numbers a list has.
use Rattle.std.proofs.Common.{◌≡◌, ℕ, zero, suc, ◌+◌, ◌<◌, ◌≤◌, ◌≢◌, Bool, true, false, if◌then◌else◌, List, [], ◌∷◌, length, refl, sym, ap, ap₂, ◌∙◌, arith, ◌⊎◌, inl, inr}
use Rattle.std.specs.Prelude.{◌||◌, ◌==◌, filter}
use Rattle.std.proofs.lemmas.Bool.Decides.{nat_tests}
use Rattle.vs_design.specs.Footprints.{contains, ascending}
use Rattle.vs_design.specs.Sizes.{distinct}
use Rattle.vs_design.specs.Values.{count_from}
use Rattle.vs_sets.proofs.Families.{same_or_other}

-- how many numbers from first on pass
abbrev counted : (ℕ → Bool) → (first n : ℕ) → ℕ
counted p first n = length (filter p (count_from first n))

abbrev one_if : Bool → ℕ
one_if k = if k then 1 else 0

counted_more : (p : ℕ → Bool) (first n : ℕ) → counted p first (suc n) ≡ one_if (p first) + counted p (suc first) n
counted_more p first n = at (p first) where
  at : (k : Bool) → length (if k then first ∷ filter p (count_from (suc first) n) else filter p (count_from (suc first) n)) ≡ one_if k + length (filter p (count_from (suc first) n))
  at true = omega arith
  at false = omega arith

-- a number that comes before them isn't among them
before : (q : ℕ → Bool) (x first n : ℕ) → x < first → counted (λ b. (b == x) || q b) first n ≡ counted q first n
before q x first zero h = refl
before q x first (suc n) h =
    let other : (first == x) ≡ false = grind (arith, nat_tests, h) in
    counted_more (λ b. (b == x) || q b) first n ∙ ap₂ ◌+◌ (ap (λ k. one_if (k || q first)) other) (before q x (suc first) n (omega (arith, h))) ∙ sym (counted_more q first n)

-- one number more passes, if it didn't yet
one_more : (q : ℕ → Bool) (x first n : ℕ) → first ≤ x → x < first + n → counted (λ b. (b == x) || q b) first n ≡ (if q x then 0 else 1) + counted q first n
one_more q x first zero h i = absurd (omega (arith, h, i))
one_more q x first (suc n) h i = at (same_or_other first x) (λ least. one_more q x (suc first) n least (omega (arith, i))) where
  here : (k : Bool) (m : ℕ) → 1 + m ≡ (if k then 0 else 1) + (one_if k + m)
  here true m = omega arith
  here false m = omega arith

  swap : (a b c : ℕ) → a + (b + c) ≡ b + (a + c)
  swap a b c = omega arith

  at : (((first == x) ≡ true) × (first ≡ x)) ⊎ (((first == x) ≡ false) × (first ≢ x)) → (suc first ≤ x → counted (λ b. (b == x) || q b) (suc first) n ≡ (if q x then 0 else 1) + counted q (suc first) n) → counted (λ b. (b == x) || q b) first (suc n) ≡ (if q x then 0 else 1) + counted q first (suc n)
  at (inl e) rest =
      let less : x < suc first = omega (arith, e.1) in
      counted_more (λ b. (b == x) || q b) first n ∙ ap₂ (λ k m. one_if (k || q first) + m) e.0 (before q x (suc first) n less) ∙ here (q first) (counted q (suc first) n)
      ∙ ap₂ (λ k m. (if q k then 0 else 1) + m) e.1 (sym (counted_more q first n))
  at (inr e) rest =
      let least : suc first ≤ x = grind (arith, h, e.1) in
      counted_more (λ b. (b == x) || q b) first n ∙ ap₂ (λ k m. one_if (k || q first) + m) e.0 (rest least)
      ∙ swap (one_if (q first)) (if q x then 0 else 1) (counted q (suc first) n) ∙ ap (λ m. (if q x then 0 else 1) + m) (sym (counted_more q first n))

none_counted : (first n : ℕ) → counted (contains []) first n ≡ 0
none_counted first zero = refl
none_counted first (suc n) = counted_more (contains []) first n ∙ ap (λ m. 0 + m) (none_counted (suc first) n)

-- an ascending list has each number once
pub ascending_count : (n : ℕ) (xs : List ℕ) → ((b : ℕ) → contains xs b ≡ true → b < n) → length (ascending n xs) ≡ distinct xs
ascending_count n [] h = none_counted 0 n
ascending_count n (x ∷ xs) h =
    one_more (contains xs) x 0 n (omega arith) (omega (arith, h x (first_is x (contains xs x))))
    ∙ ap (λ m. (if contains xs x then 0 else 1) + m) (ascending_count n xs (λ b k. h b (later b (b == x) k)))
  where
    first_is : (x : ℕ) (k : Bool) → ((x == x) || k) ≡ true
    first_is x k = let e : (x == x) ≡ true = grind (arith, nat_tests) in ap (λ j. j || k) e

    later : (b : ℕ) (k : Bool) → contains xs b ≡ true → (k || contains xs b) ≡ true
    later b true h = refl
    later b false h = h

-- some number is above all of them
abbrev above : List ℕ → ℕ
above [] = 0
above (x ∷ xs) = suc x + above xs

all_below : (xs : List ℕ) (b : ℕ) → contains xs b ≡ true → b < above xs
all_below [] b h = absurd (let z : ⊥ = cc in z)
all_below (x ∷ xs) b h = at (same_or_other b x) h (all_below xs b) where
  at : (((b == x) ≡ true) × (b ≡ x)) ⊎ (((b == x) ≡ false) × (b ≢ x)) → ((b == x) || contains xs b) ≡ true → (contains xs b ≡ true → b < above xs) → b < suc x + above xs
  at (inl e) h rest = omega (arith, e.1)
  at (inr e) h rest = let k = rest (sym (ap (λ q. q || contains xs b) e.0) ∙ h) in omega (arith, k)

-- what is put in ascending order, each once, has as many
pub ascended_count : (xs ys : List ℕ) → ((count : ℕ) → ((b : ℕ) → contains xs b ≡ true → b < count) → ys ≡ ascending count xs) → length ys ≡ distinct xs
ascended_count xs ys h = ap length (h (above xs) (all_below xs)) ∙ ascending_count (above xs) xs (all_below xs)
