-- Lists and their elements.
use Rattle.std.proofs.Common.{◌≡◌, ℕ, zero, suc, ◌+◌, ◌<◌, ◌≤◌, List, [], ◌∷◌, ◌++◌, map, length, get_or, slice_index, ap, ◌∙◌, refl, arith, add-one}
use Rattle.std.specs.List.{All, range_with_len}
use Rattle.std.proofs.lemmas.List.Elements.{All-contains, All-head, All-tail, Contains-get_or, Contains-append_left, Contains-append_right}
use Rattle.std.proofs.lemmas.List.FromFn.{length-range_with_len, get_or-range_with_len}
use Rattle.vs_plane.specs.Kernels.{AreDifferent, AreApart}

pub all_left : {X : Type 0} (P : X → Type 0) (xs ys : List X) → All P (xs ++ ys) → All P xs
all_left P xs ys h = λ k d l. All-contains P (xs ++ ys) (get_or xs k d) h (Contains-append_left xs ys (get_or xs k d) (Contains-get_or xs k d l))

pub all_right : {X : Type 0} (P : X → Type 0) (xs ys : List X) → All P (xs ++ ys) → All P ys
all_right P xs ys h = λ k d l. All-contains P (xs ++ ys) (get_or ys k d) h (Contains-append_right xs ys (get_or ys k d) (Contains-get_or ys k d l))

-- two functions that agree at each element
pub map_agree : {X Y : Type 0} (f g : X → Y) (xs : List X) → All (λ x. f x ≡ g x) xs → map f xs ≡ map g xs
map_agree f g [] h = refl
map_agree f g (x ∷ xs) h =
    ap (λ y. y ∷ map f xs) (All-head (λ z. f z ≡ g z) x xs h) ∙ ap (λ ys. g x ∷ ys) (map_agree f g xs (All-tail (λ z. f z ≡ g z) x xs h))

-- ---- numbers one after the other

pub range_at : (a n k d : ℕ) → k < n → get_or (range_with_len a n) k d ≡ a + k
range_at a n k d l = get_or-range_with_len a n k d l

pub range_below : (a n count : ℕ) → a + n ≤ count → All (λ slot. slot < count) (range_with_len a n)
range_below a n count h = λ k d l. omega (arith, range_at a n k d (omega (arith, length-range_with_len a n)), length-range_with_len a n)

pub range_from : (a n mark : ℕ) → mark ≤ a → All (λ slot. mark ≤ slot) (range_with_len a n)
range_from a n mark h = λ k d l. omega (arith, range_at a n k d (omega (arith, length-range_with_len a n)))

pub range_different : (a n : ℕ) → AreDifferent (range_with_len a n)
range_different a n = record { place = λ j k l m e. omega (arith, range_at a n j 0 (omega (arith, length-range_with_len a n)), range_at a n k 0 (omega (arith, length-range_with_len a n))) }

pub below_apart : (xs : List ℕ) (a n : ℕ) → All (λ slot. slot < a) xs → AreApart xs (range_with_len a n)
below_apart xs a n h = record { differ = λ j k l p e. omega (arith, h j 0 l, range_at a n k 0 (omega (arith, length-range_with_len a n))) }

-- one number more
pub range_more : (a n : ℕ) → range_with_len a (n + 1) ≡ range_with_len a n ++ (a + n) ∷ []
range_more a n = ap (range_with_len a) (add-one n) ∙ next a n
  where
    next : (a n : ℕ) → range_with_len a (suc n) ≡ range_with_len a n ++ (a + n) ∷ []
    next a zero = ap (λ (m : ℕ). m ∷ []) (omega arith)
    next a (suc n) = ap (λ (ms : List ℕ). a ∷ ms) (next (a + 1) n ∙ ap (λ (m : ℕ). range_with_len (a + 1) n ++ m ∷ []) (omega arith))

-- what a function makes of an element
pub map_at : (f : ℕ → ℕ) (xs : List ℕ) (k : ℕ) → k < length xs → slice_index (map f xs) k ≡ f (slice_index xs k)
map_at f [] k l = absurd (omega arith)
map_at f (x ∷ xs) zero l = refl
map_at f (x ∷ xs) (suc k) l = map_at f xs k (omega arith)
