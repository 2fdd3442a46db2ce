-- Lists of numbers without repetition.
use Rattle.std.proofs.Common.{◌≡◌, ℕ, zero, suc, ◌≤◌, ◌<◌, true, false, List, [], ◌∷◌, ◌++◌, ◌||◌, ◌==◌, if◌then◌else◌, refl, sym, ap, ◌∙◌, subst, length, arith, eqb-true, eq-eqb, ◌⊎◌, inl, inr}
use Rattle.std.proofs.lemmas.Bool.{cases_lt}
use Rattle.vs_design.specs.Footprints.{contains}
use Rattle.vs_design.specs.Cycles.{AreApart, AreAtLeast}
use Rattle.vs_design.proofs.Lists.{by_test, or_neither, or_false, contains-append, contains_head}
use Rattle.vs_design.proofs.Writes.{either_way}

-- the list without its first n
remove : ℕ → List ℕ → List ℕ
remove n [] = []
remove n (x ∷ xs) = if n == x then xs else (x ∷ remove n xs)

remove_length : (n : ℕ) (xs : List ℕ) → length xs ≤ suc (length (remove n xs))
unfolding remove
remove_length n [] = omega arith
remove_length n (x ∷ xs) = by_test (n == x) (λ e. rw e (omega arith)) (λ e. let h = remove_length n xs in rw e (omega (arith, h)))

remove_within : (n : ℕ) (xs : List ℕ) (b : ℕ) → contains xs b ≡ false → contains (remove n xs) b ≡ false
unfolding remove
remove_within n [] b h = refl
remove_within n (x ∷ xs) b h =
    let k = or_neither (b == x) (contains xs b) h in
    by_test (n == x) (λ e. rw e k.1) (λ e. rw e (or_false (b == x) (contains (remove n xs) b) k.0 (remove_within n xs b k.1)))

remove_apart : (n : ℕ) (xs : List ℕ) → AreApart xs → AreApart (remove n xs)
unfolding remove
remove_apart n [] h = tt
remove_apart n (x ∷ xs) h = by_test (n == x) (λ e. rw e h.1) (λ e. rw e (remove_within n xs x h.0, remove_apart n xs h.1))

remove_gone : (n : ℕ) (xs : List ℕ) → AreApart xs → contains (remove n xs) n ≡ false
unfolding remove
remove_gone n [] h = refl
remove_gone n (x ∷ xs) h = by_test (n == x) (λ e. rw e (subst (λ m. contains xs m ≡ false) (sym (eqb-true n x e)) h.0)) (λ e. rw e (or_false (n == x) (contains (remove n xs) n) e (remove_gone n xs h.1)))

-- so many numbers below n are at most n
pub few_below : (n : ℕ) (xs : List ℕ) → AreApart xs → ((b : ℕ) → contains xs b ≡ true → b < n) → length xs ≤ n
few_below zero [] h k = omega arith
few_below zero (x ∷ xs) h k = let l = k x (contains_head x xs) in absurd (omega (arith, l))
few_below (suc n) xs h k =
    let rest : length (remove n xs) ≤ n = few_below n (remove n xs) (remove_apart n xs h) below in
    let l = remove_length n xs in omega (arith, rest, l)
  where
    below : (b : ℕ) → contains (remove n xs) b ≡ true → b < n
    below b c =
        let m : b < suc n = by_test (contains xs b) (λ e. k b e) (λ e. absurd (either_way (contains (remove n xs) b) c (remove_within n xs b e))) in
        by_test (b == n)
        (λ e. absurd (either_way (contains (remove n xs) b) c (subst (λ z. contains (remove n xs) z ≡ false) (sym (eqb-true b n e)) (remove_gone n xs h))))
        (λ e. less b m e)
      where
        less : (b : ℕ) → b < suc n → (b == n) ≡ false → b < n
        less b m e = grind (arith, eq-eqb b n)

-- and if they are n, each is there
pub all_below : (n : ℕ) (xs : List ℕ) (p : ℕ) → AreApart xs → ((b : ℕ) → contains xs b ≡ true → b < n) → n ≤ length xs → p < n → contains xs p ≡ true
all_below n xs p h k l m =
    by_test (contains xs p)
    (λ e. e)
    (λ e. let f : suc (length xs) ≤ n = few_below n (p ∷ xs) (e, h) (λ b c. by_test (b == p) (λ q. subst (λ z. z < n) (sym (eqb-true b p q)) m) (λ q. k b (subst (λ z. (z || contains xs b) ≡ true) q c))) in absurd (omega (arith, f)))

pub append_false : (xs ys : List ℕ) (b : ℕ) → contains (xs ++ ys) b ≡ false → (contains xs b ≡ false) × (contains ys b ≡ false)
append_false xs ys b h = or_neither (contains xs b) (contains ys b) (sym (contains-append xs ys b) ∙ h)

pub false_append : (xs ys : List ℕ) (b : ℕ) → contains xs b ≡ false → contains ys b ≡ false → contains (xs ++ ys) b ≡ false
false_append xs ys b h k = contains-append xs ys b ∙ or_false (contains xs b) (contains ys b) h k

-- one more at the end
pub apart_snoc : (xs : List ℕ) (p : ℕ) → AreApart xs → contains xs p ≡ false → AreApart (xs ++ p ∷ [])
apart_snoc [] p h k = (refl, tt)
apart_snoc (x ∷ xs) p h k =
    let q = or_neither (p == x) (contains xs p) k in
    (false_append xs (p ∷ []) x h.0 (or_false (x == p) false (turned x p q.0) refl), apart_snoc xs p h.1 q.1)
  where
    turned : (x p : ℕ) → (p == x) ≡ false → (x == p) ≡ false
    turned x p h = by_test (x == p) (λ e. absurd (either_way (p == x) (eq-eqb p x (sym (eqb-true x p e))) h)) (λ e. e)

pub apart_left : (xs ys : List ℕ) → AreApart (xs ++ ys) → AreApart xs
apart_left [] ys h = tt
apart_left (x ∷ xs) ys h = ((append_false xs ys x h.0).0, apart_left xs ys h.1)

-- the parts change places
pub apart_turned : (xs ys : List ℕ) → AreApart (xs ++ ys) → AreApart (ys ++ xs)
apart_turned [] ys h = subst AreApart (sym (append_nil ys)) h
  where
    append_nil : (ys : List ℕ) → ys ++ [] ≡ ys
    append_nil [] = refl
    append_nil (y ∷ ys) = ap {B = List ℕ} (λ zs. y ∷ zs) (append_nil ys)
apart_turned (x ∷ xs) ys h = insert ys (append_false xs ys x h.0).1 (append_false xs ys x h.0).0 (apart_turned xs ys h.1)
  where
    insert : (zs : List ℕ) → contains zs x ≡ false → contains xs x ≡ false → AreApart (zs ++ xs) → AreApart (zs ++ x ∷ xs)
    insert [] g k a = (k, a)
    insert (z ∷ zs) g k a =
        let q = or_neither (x == z) (contains zs x) g in
        let r = append_false zs xs z a.0 in
        (false_append zs (x ∷ xs) z r.0 (or_false (z == x) (contains xs z) (turned z x q.0) r.1), insert zs q.1 k a.1)
      where
        turned : (z x : ℕ) → (x == z) ≡ false → (z == x) ≡ false
        turned z x h = by_test (z == x) (λ e. absurd (either_way (x == z) (eq-eqb x z (sym (eqb-true z x e))) h)) (λ e. e)

-- ---- the least

pub least_append : (m : ℕ) (xs ys : List ℕ) → AreAtLeast m xs → AreAtLeast m ys → AreAtLeast m (xs ++ ys)
least_append m [] ys h k = k
least_append m (x ∷ xs) ys h k = (h.0, least_append m xs ys h.1 k)

pub least_lower : (m n : ℕ) (xs : List ℕ) → m ≤ n → AreAtLeast n xs → AreAtLeast m xs
least_lower m n [] l h = tt
least_lower m n (x ∷ xs) l h = let a = h.0 in (omega (arith, a), least_lower m n xs l h.1)

-- a list is cut before its least
pub record Cut (xs : List ℕ) : Type 0 where
  pub before : List ℕ
  pub at : ℕ
  pub after : List ℕ
  pub is : xs ≡ before ++ at ∷ after
  pub before_least : AreAtLeast at before
  pub after_least : AreAtLeast at after

pub cut_least : (x : ℕ) (xs : List ℕ) → Cut (x ∷ xs)
cut_least x [] = record { before = []; at = x; after = []; is = refl; before_least = tt; after_least = tt }
cut_least x (y ∷ ys) = go (cut_least y ys) (cases_lt x (cut_least y ys).at)
  where
    go : (c : Cut (y ∷ ys)) → (x < c.at) ⊎ (c.at ≤ x) → Cut (x ∷ y ∷ ys)
    go c (inl l) = record {
      before = [];
      at = x;
      after = y ∷ ys;
      is = refl;
      before_least = tt;
      after_least = subst (AreAtLeast x) (sym c.is) (least_append x c.before (c.at ∷ c.after) (least_lower x c.at c.before (omega arith) c.before_least) (omega arith, least_lower x c.at c.after (omega arith) c.after_least));
    }
    go c (inr l) = record { before = x ∷ c.before; at = c.at; after = c.after; is = ap {B = List ℕ} (λ zs. x ∷ zs) c.is; before_least = (l, c.before_least); after_least = c.after_least }
