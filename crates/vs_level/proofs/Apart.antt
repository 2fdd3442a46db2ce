-- Lists without repetition, and least numbers.
use Rattle.std.proofs.Common.{◌≡◌, ℕ, zero, suc, ◌≤◌, ◌<◌, false, List, [], ◌∷◌, ◌++◌, ◌==◌, refl, sym, ap, ◌∙◌, subst, length, arith, get_or}
use Rattle.vs_design.specs.Footprints.{contains}
use Rattle.vs_design.specs.Cycles.{AreApart, AreAtLeast}
use Rattle.vs_reads.proofs.Tests.{or_neither, or_false, contains-append, same_turned}

pub append_false : (xs ys : List ℕ) (b : ℕ) → contains (xs ++ ys) b ≡ false → (contains xs b ≡ false) × (contains ys b ≡ false)
append_false xs ys b h = or_neither (contains xs b) (contains ys b) (sym (contains-append xs ys b) ∙ h)

pub false_append : (xs ys : List ℕ) (b : ℕ) → contains xs b ≡ false → contains ys b ≡ false → contains (xs ++ ys) b ≡ false
false_append xs ys b h k = contains-append xs ys b ∙ or_false (contains xs b) (contains ys b) h k

pub apart_left : (xs ys : List ℕ) → AreApart (xs ++ ys) → AreApart xs
apart_left [] ys h = tt
apart_left (x ∷ xs) ys h = ((append_false xs ys x h.0).0, apart_left xs ys h.1)

insert : (x : ℕ) (xs zs : List ℕ) → contains zs x ≡ false → contains xs x ≡ false → AreApart (zs ++ xs) → AreApart (zs ++ x ∷ xs)
insert x xs [] g k a = (k, a)
insert x xs (z ∷ zs) g k a =
    let q = or_neither (x == z) (contains zs x) g in
    let r = append_false zs xs z a.0 in
    (false_append zs (x ∷ xs) z r.0 (or_false (z == x) (contains xs z) (same_turned z x q.0) r.1), insert x xs zs q.1 k a.1)

append_nil : (ys : List ℕ) → ys ++ [] ≡ ys
append_nil [] = refl
append_nil (y ∷ ys) = ap {B = List ℕ} (λ zs. y ∷ zs) (append_nil ys)

-- the parts change places
pub apart_turned : (xs ys : List ℕ) → AreApart (xs ++ ys) → AreApart (ys ++ xs)
apart_turned [] ys h = subst AreApart (sym (append_nil ys)) h
apart_turned (x ∷ xs) ys h = let f = append_false xs ys x h.0 in insert x xs ys f.1 f.0 (apart_turned xs ys h.1)

pub least_join : (m : ℕ) (xs ys : List ℕ) → AreAtLeast m xs → AreAtLeast m ys → AreAtLeast m (xs ++ ys)
least_join m [] ys h k = k
least_join m (x ∷ xs) ys h k = (h.0, least_join m xs ys h.1 k)

pub least_parts : (m : ℕ) (xs ys : List ℕ) → AreAtLeast m (xs ++ ys) → AreAtLeast m xs × AreAtLeast m ys
least_parts m [] ys h = (tt, h)
least_parts m (x ∷ xs) ys h = let k = least_parts m xs ys h.1 in ((h.0, k.0), k.1)

pub least_of : (m : ℕ) (xs : List ℕ) → ((k : ℕ) → k < length xs → m ≤ get_or xs k 0) → AreAtLeast m xs
least_of m [] h = tt
least_of m (x ∷ xs) h = (h zero (omega arith), least_of m xs (λ k l. h (suc k) (omega (arith, l))))
