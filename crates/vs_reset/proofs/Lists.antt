-- Lists of numbers.
use Rattle.std.proofs.Common.{◌≡◌, ◌≢◌, ℕ, zero, suc, ◌+◌, ◌<◌, ◌≤◌, Bool, true, false, List, [], ◌∷◌, ◌||◌, ◌==◌, map, length, get_or, sym, ap, ◌∙◌, subst, refl, arith, eqb-true, eq-eqb}
use Rattle.std.specs.Prelude.{All}
use Rattle.std.proofs.lemmas.Bool.{both_ways}
use Rattle.std.proofs.lemmas.List.Elements.{All-nil, All-cons}
use Rattle.vs_design.specs.Values.{count_from}
use Rattle.vs_design.specs.Footprints.{contains}
use Rattle.vs_design.specs.Cycles.{AreApart}
use Rattle.vs_plane.specs.Kernels.{AreDifferent}
use Rattle.vs_plane.specs.Kernels as K

pub by_test : {P : Type 0} (b : Bool) → (b ≡ true → P) → (b ≡ false → P) → P
by_test true f g = f refl
by_test false f g = g refl

pub in_first : (p : ℕ) (ps : List ℕ) → contains (p ∷ ps) p ≡ true
in_first p ps = ap (λ c. c || contains ps p) (eq-eqb p p refl)

pub in_rest : (p : ℕ) (ps : List ℕ) (q : ℕ) → contains ps q ≡ true → contains (p ∷ ps) q ≡ true
in_rest p ps q h = by_test (q == p) (λ e. ap (λ z. z || contains ps q) e) (λ e. ap (λ z. z || contains ps q) e ∙ h)

pub first_or : {P : Type 0} (p : ℕ) (ps : List ℕ) (q : ℕ) → contains (p ∷ ps) q ≡ true → (q ≡ p → P) → (contains ps q ≡ true → P) → P
first_or p ps q h f g = by_test (q == p)
    (λ e. f (eqb-true q p e))
    (λ e. g (subst (λ c. (c || contains ps q) ≡ true) e h))

pub at_in : (bs : List ℕ) (n : ℕ) → n < length bs → contains bs (get_or bs n 0) ≡ true
at_in [] n l = absurd (omega arith)
at_in (b ∷ bs) zero l = in_first b bs
at_in (b ∷ bs) (suc n) l = in_rest b bs (get_or bs n 0) (at_in bs n (omega arith))

-- a number that stands at a place is in the list
pub place_in : (xs : List ℕ) (k slot : ℕ) → k < length xs → get_or xs k slot ≡ slot → contains xs slot ≡ true
place_in [] k slot l e = absurd (omega arith)
place_in (x ∷ xs) zero slot l e = subst (λ z. contains (x ∷ xs) z ≡ true) e (in_first x xs)
place_in (x ∷ xs) (suc k) slot l e = in_rest x xs slot (place_in xs k slot (omega arith) e)

pub in_map : (f : ℕ → ℕ) (bs : List ℕ) (s : ℕ) → contains (map f bs) s ≡ true → (b : ℕ) × (contains bs b ≡ true) × (s ≡ f b)
in_map f [] s h = cc
in_map f (b ∷ bs) s h = first_or (f b) (map f bs) s h
    (λ e. (b, in_first b bs, e))
    (λ k. let r = in_map f bs s k in (r.0, in_rest b bs r.0 r.1, r.2))

pub in_count : (first n b : ℕ) → contains (count_from first n) b ≡ true → (first ≤ b) × (b < first + n)
in_count first zero b h = cc
in_count first (suc n) b h = first_or first (count_from (suc first) n) b h
    (λ e. (omega (arith, e), omega (arith, e)))
    (λ k. let r = in_count (suc first) n b k in (omega (arith, r.0), omega (arith, r.1)))

pub length-count : (first n : ℕ) → length (count_from first n) ≡ n
length-count first zero = refl
length-count first (suc n) = ap suc (length-count (suc first) n)

pub all_in : (P : ℕ → Type 0) (xs : List ℕ) → ((x : ℕ) → contains xs x ≡ true → P x) → All P xs
all_in P [] h = All-nil P
all_in P (x ∷ xs) h = All-cons P x xs (h x (in_first x xs)) (all_in P xs (λ y k. h y (in_rest x xs y k)))

pub apart : (xs ys : List ℕ) → ((a b : ℕ) → contains xs a ≡ true → contains ys b ≡ true → a ≢ b) → K.AreApart xs ys
apart xs ys ne = record { differ = λ j k l m e. ne (get_or xs j 0) (get_or ys k 0) (at_in xs j l) (at_in ys k m) e }

pub none_apart : (xs : List ℕ) → K.AreApart xs []
none_apart xs = record { differ = λ j k l m e. omega (arith, m) }

pub none_different : AreDifferent []
none_different = record { place = λ j k l m e. absurd (omega (arith, l)) }

at_map : (f : ℕ → ℕ) (bs : List ℕ) (n : ℕ) → n < length bs → get_or (map f bs) n 0 ≡ f (get_or bs n 0)
at_map f [] n l = absurd (omega arith)
at_map f (b ∷ bs) zero l = refl
at_map f (b ∷ bs) (suc n) l = at_map f bs n (omega arith)

places : (bs : List ℕ) → AreApart bs → (j k : ℕ) → j < length bs → k < length bs → get_or bs j 0 ≡ get_or bs k 0 → j ≡ k
places [] h j k l m e = absurd (omega arith)
places (b ∷ bs) h zero zero l m e = refl
places (b ∷ bs) h zero (suc k) l m e = absurd (both_ways (contains bs b) h.0 (subst (λ z. contains bs z ≡ true) (sym e) (at_in bs k (omega arith))))
places (b ∷ bs) h (suc j) zero l m e = absurd (both_ways (contains bs b) h.0 (subst (λ z. contains bs z ≡ true) e (at_in bs j (omega arith))))
places (b ∷ bs) h (suc j) (suc k) l m e = ap suc (places bs h.1 j k (omega arith) (omega arith) e)

pub different : (xs : List ℕ) → AreApart xs → AreDifferent xs
different xs h = record { place = λ j k l m e. places xs h j k l m e }

pub map_apart : (f : ℕ → ℕ) → ((b c : ℕ) → f b ≡ f c → b ≡ c) → (bs : List ℕ) → AreApart bs → AreApart (map f bs)
map_apart f own [] h = tt
map_apart f own (b ∷ bs) h = (
  by_test (contains (map f bs) (f b))
      (λ k. let r = in_map f bs (f b) k in absurd (both_ways (contains bs b) h.0 (subst (λ z. contains bs z ≡ true) (sym (own b r.0 r.2)) r.1)))
      (λ k. k),
  map_apart f own bs h.1,
)

pub count_apart : (first n : ℕ) → AreApart (count_from first n)
count_apart first zero = tt
count_apart first (suc n) = (
  by_test (contains (count_from (suc first) n) first)
      (λ k. let r = in_count (suc first) n first k in absurd (omega (arith, r.0)))
      (λ k. k),
  count_apart (suc first) n,
)
