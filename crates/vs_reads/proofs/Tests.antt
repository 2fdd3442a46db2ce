-- Tests of lists of numbers.
use Rattle.std.proofs.Common.{◌≡◌, ℕ, zero, suc, ◌+◌, ◌<◌, Bool, true, false, List, [], ◌∷◌, ◌++◌, ◌||◌, ◌&&◌, ◌==◌, not, refl, sym, ap, ◌∙◌, subst, eqb-true, eq-eqb, get_or, length, take, arith, nat_lt}
use Rattle.std.specs.List.{list_any}
use Rattle.std.proofs.lemmas.Bool.{lt-ltb, ltb-true}
use Rattle.std.proofs.lemmas.List.{take_more}
use Rattle.std.proofs.lemmas.List.Folds.{list_any-append}
use Rattle.vs_design.specs.Footprints.{contains}

pub by_test : {P : Type 0} (b : Bool) → (b ≡ true → P) → (b ≡ false → P) → P
by_test true f g = f refl
by_test false f g = g refl

pub either_way : {P : Type 0} (b : Bool) → b ≡ true → b ≡ false → P
either_way true h k = cc
either_way false h k = cc

pub or_left : (a b : Bool) → a ≡ true → (a || b) ≡ true
or_left true b h = refl
or_left false b h = cc

pub or_right : (a b : Bool) → b ≡ true → (a || b) ≡ true
or_right true b h = refl
or_right false b h = h

pub or_neither : (a b : Bool) → (a || b) ≡ false → (a ≡ false) × (b ≡ false)
or_neither true b h = cc
or_neither false b h = (refl, h)

pub or_false : (a b : Bool) → a ≡ false → b ≡ false → (a || b) ≡ false
or_false true b h k = h
or_false false b h k = k

-- two tests that hold together
pub same_test : (a b : Bool) → (a ≡ true → b ≡ true) → (b ≡ true → a ≡ true) → a ≡ b
same_test true b f g = sym (f refl)
same_test false true f g = g refl
same_test false false f g = refl

pub contains-append : (xs ys : List ℕ) (b : ℕ) → contains (xs ++ ys) b ≡ (contains xs b || contains ys b)
contains-append xs ys b = list_any-append (λ c. b == c) xs ys

pub contains_head : (b : ℕ) (bs : List ℕ) → contains (b ∷ bs) b ≡ true
contains_head b bs = or_left (b == b) (contains bs b) (eq-eqb b b refl)

pub contains_tail : (b c : ℕ) (bs : List ℕ) → contains bs b ≡ true → contains (c ∷ bs) b ≡ true
contains_tail b c bs h = or_right (b == c) (contains bs b) h

pub same_turned : (x p : ℕ) → (p == x) ≡ false → (x == p) ≡ false
same_turned x p h = by_test (x == p) (λ e. either_way (p == x) (eq-eqb p x (sym (eqb-true x p e))) h) (λ e. e)

-- a member of a list has a place in it
pub place_of : (bs : List ℕ) (b : ℕ) → contains bs b ≡ true → (k : ℕ) × (k < length bs) × (get_or bs k 0 ≡ b)
place_of [] b h = cc
place_of (c ∷ bs) b h =
    by_test (b == c)
    (λ e. (zero, omega arith, sym (eqb-true b c e)))
    (λ e. let r = place_of bs b (subst (λ t. (t || contains bs b) ≡ true) e h) in (suc r.0, omega (arith, r.1), r.2))

-- and what has a place is a member
pub member_at : (bs : List ℕ) (k : ℕ) → k < length bs → contains bs (get_or bs k 0) ≡ true
member_at [] k h = absurd (omega (arith, h))
member_at (c ∷ bs) zero h = contains_head c bs
member_at (c ∷ bs) (suc k) h = contains_tail (get_or bs k 0) c bs (member_at bs k (omega (arith, h)))

pub and_both : (a b : Bool) → (a && b) ≡ true → (a ≡ true) × (b ≡ true)
and_both true b h = (refl, h)
and_both false b h = cc

pub and_true : (a b : Bool) → a ≡ true → b ≡ true → (a && b) ≡ true
and_true true b h k = k
and_true false b h k = cc

pub not_true : (a : Bool) → not a ≡ true → a ≡ false
not_true true h = cc
not_true false h = refl

pub not_false : (a : Bool) → a ≡ false → not a ≡ true
not_false true h = cc
not_false false h = refl

-- some member passes the test
pub any_member : (test : ℕ → Bool) (bs : List ℕ) → list_any test bs ≡ true → (b : ℕ) × (contains bs b ≡ true) × (test b ≡ true)
any_member test [] h = cc
any_member test (c ∷ bs) h =
    by_test (test c)
    (λ e. (c, contains_head c bs, e))
    (λ e. let r = any_member test bs (subst (λ t. (t || list_any test bs) ≡ true) e h) in (r.0, contains_tail r.0 c bs r.1, r.2))

pub member_any : (test : ℕ → Bool) (bs : List ℕ) (b : ℕ) → contains bs b ≡ true → test b ≡ true → list_any test bs ≡ true
member_any test [] b h k = cc
member_any test (c ∷ bs) b h k =
    by_test (b == c)
    (λ e. or_left (test c) (list_any test bs) (subst (λ m. test m ≡ true) (eqb-true b c e) k))
    (λ e. or_right (test c) (list_any test bs) (member_any test bs b (subst (λ t. (t || contains bs b) ≡ true) e h) k))

-- lists with the same members pass the same tests
pub any_same : (test : ℕ → Bool) (xs ys : List ℕ) → ((b : ℕ) → contains xs b ≡ contains ys b) → list_any test xs ≡ list_any test ys
any_same test xs ys h =
    same_test (list_any test xs) (list_any test ys)
    (λ e. let r = any_member test xs e in member_any test ys r.0 (sym (h r.0) ∙ r.1) r.2)
    (λ e. let r = any_member test ys e in member_any test xs r.0 (h r.0 ∙ r.1) r.2)

pub any_test : (f g : ℕ → Bool) (xs : List ℕ) → ((b : ℕ) → contains xs b ≡ true → f b ≡ g b) → list_any f xs ≡ list_any g xs
any_test f g xs h =
    same_test (list_any f xs) (list_any g xs)
    (λ e. let r = any_member f xs e in member_any g xs r.0 r.1 (sym (h r.0 r.1) ∙ r.2))
    (λ e. let r = any_member g xs e in member_any f xs r.0 r.1 (h r.0 r.1 ∙ r.2))

-- two lists share a member
pub any_turned : (xs ys : List ℕ) → list_any (contains xs) ys ≡ list_any (contains ys) xs
any_turned xs ys =
    same_test (list_any (contains xs) ys) (list_any (contains ys) xs)
    (λ e. let r = any_member (contains xs) ys e in member_any (contains ys) xs r.0 r.2 r.1)
    (λ e. let r = any_member (contains ys) xs e in member_any (contains xs) ys r.0 r.2 r.1)

-- a list with one member more
pub contains_more : (bits : List ℕ) (i b : ℕ) → i < length bits → contains (take (i + 1) bits) b ≡ (contains (take i bits) b || (b == get_or bits i 0))
contains_more bits i b h = ap {B = Bool} (λ zs. contains zs b) (take_more bits i 0 h) ∙ contains-append (take i bits) (get_or bits i 0 ∷ []) b ∙ ap {B = Bool} (λ t. contains (take i bits) b || t) (or_nothing (b == get_or bits i 0))
  where
    or_nothing : (a : Bool) → (a || false) ≡ a
    or_nothing true = refl
    or_nothing false = refl

pub any_more : (test : ℕ → Bool) (bits : List ℕ) (i : ℕ) → i < length bits → list_any test (take (i + 1) bits) ≡ (list_any test (take i bits) || test (get_or bits i 0))
any_more test bits i h = ap {B = Bool} (list_any test) (take_more bits i 0 h) ∙ list_any-append test (take i bits) (get_or bits i 0 ∷ []) ∙ ap {B = Bool} (λ t. list_any test (take i bits) || t) (or_nothing (test (get_or bits i 0)))
  where
    or_nothing : (a : Bool) → (a || false) ≡ a
    or_nothing true = refl
    or_nothing false = refl

-- numbers below p + 1
pub below_same : (p : ℕ) → nat_lt p (p + 1) ≡ true
below_same p = lt-ltb p (p + 1) (omega arith)

pub below_other : (q p : ℕ) → (q == p) ≡ false → nat_lt q (p + 1) ≡ nat_lt q p
below_other q p h =
    same_test (nat_lt q (p + 1)) (nat_lt q p)
    (λ e. lt-ltb q p (less (ltb-true q (p + 1) e)))
    (λ e. lt-ltb q (p + 1) (let l = ltb-true q p e in omega (arith, l)))
  where
    less : q < p + 1 → q < p
    less l = grind (arith, eq-eqb q p)
