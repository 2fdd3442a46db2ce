-- Laws of truth values, and tests of lists.
use Rattle.std.proofs.Common.{◌≡◌, ℕ, zero, suc, ◌+◌, ◌<◌, Bool, true, false, not, ◌||◌, ◌&&◌, ◌==◌, List, [], ◌∷◌, ◌++◌, refl, sym, ap, ◌∙◌, subst, eqb-true, get_or, length, map, take, arith}
use Rattle.std.specs.Prelude.{filter}
use Rattle.std.proofs.lemmas.List.{take_more}
use Rattle.vs_design.specs.Footprints.{contains, without}
use Rattle.vs_design.specs.Latches.{common}
use Rattle.vs_reads.proofs.Tests.{by_test, contains-append}

pub or_false : (a : Bool) → (a || false) ≡ a
or_false true = refl
or_false false = refl

pub and_false : (a : Bool) → (a && false) ≡ false
and_false true = refl
and_false false = refl

pub contains_one : (x b : ℕ) → contains (x ∷ []) b ≡ (b == x)
contains_one x b = or_false (b == x)

pub contains_more : (bits : List ℕ) (i b : ℕ) → i < length bits → contains (take (i + 1) bits) b ≡ (contains (take i bits) b || (b == get_or bits i 0))
contains_more bits i b h =
    ap {B = Bool} (λ zs. contains zs b) (take_more bits i 0 h) ∙ contains-append (take i bits) (get_or bits i 0 ∷ []) b ∙ ap {B = Bool} (λ t. contains (take i bits) b || t) (contains_one (get_or bits i 0) b)

pub contains_filter : (f : ℕ → Bool) (xs : List ℕ) (b : ℕ) → contains (filter f xs) b ≡ (contains xs b && f b)
contains_filter f [] b = refl
contains_filter f (x ∷ xs) b =
    by_test (f x)
    (λ e. rw e
    (by_test (b == x)
    (λ k. rw k (sym (subst (λ c. f c ≡ true) (sym (eqb-true b x k)) e)))
    (λ k. rw k (contains_filter f xs b))))
    (λ e. rw e
    (by_test (b == x)
    (λ k.
    let fb : f b ≡ false = subst (λ c. f c ≡ false) (sym (eqb-true b x k)) e in
    rw k (contains_filter f xs b ∙ ap {B = Bool} (λ c. contains xs b && c) fb ∙ and_false (contains xs b) ∙ sym fb))
    (λ k. rw k (contains_filter f xs b))))

pub contains_without : (bs others : List ℕ) (b : ℕ) → contains (without bs others) b ≡ (contains bs b && not (contains others b))
contains_without bs others b = contains_filter (λ c. not (contains others c)) bs b

pub contains_common : (bs cs : List ℕ) (b : ℕ) → contains (common bs cs) b ≡ (contains bs b && contains cs b)
contains_common bs cs b = contains_filter (contains cs) bs b

-- a member of a list has a place in it
pub place_in : (bs : List ℕ) (b : ℕ) → contains bs b ≡ true → (k : ℕ) × (k < length bs) × (get_or bs k 0 ≡ b)
place_in [] b h = cc
place_in (c ∷ bs) b h =
    by_test (b == c)
    (λ e. (zero, omega arith, sym (eqb-true b c e)))
    (λ e. let r = place_in bs b (subst (λ t. (t || contains bs b) ≡ true) e h) in (suc r.0, omega (arith, r.1), r.2))

-- and what has a place is a member
-- lists of equal lengths with the same flags
pub same_flags : (xs ys : List Bool) → length xs ≡ length ys → ((k : ℕ) → k < length xs → get_or xs k false ≡ get_or ys k false) → xs ≡ ys
same_flags [] [] n h = refl
same_flags [] (y ∷ ys) n h = absurd (omega (arith, n))
same_flags (x ∷ xs) [] n h = absurd (omega (arith, n))
same_flags (x ∷ xs) (y ∷ ys) n h =
    let first : x ≡ y = h 0 (omega arith) in
    let rest : xs ≡ ys = same_flags xs ys (omega (arith, n)) (λ k l. h (suc k) (omega (arith, l))) in
    cc

-- one element more
map_end : {A B : Type 0} (f : A → B) (xs : List A) (x : A) → map f (xs ++ x ∷ []) ≡ map f xs ++ f x ∷ []
map_end f [] x = refl
map_end f (y ∷ ys) x = ap (λ zs. f y ∷ zs) (map_end f ys x)

pub map_more : {A B : Type 0} (f : A → B) (xs : List A) (i : ℕ) (x : A) → i < length xs → x ≡ get_or xs i x → map f (take (i + 1) xs) ≡ map f (take i xs) ++ f x ∷ []
map_more f xs i x h is = ap (map f) (take_more xs i x h) ∙ map_end f (take i xs) (get_or xs i x) ∙ ap (λ y. map f (take i xs) ++ f y ∷ []) (sym is)
