-- Lists of numbers and the numbers that they have.
use Rattle.std.proofs.Common.{◌≡◌, ℕ, zero, suc, ◌+◌, ◌<◌, ◌≤◌, Bool, true, false, not, ◌&&◌, ◌||◌, ◌==◌, List, [], ◌∷◌, ◌++◌, Some, if◌then◌else◌, length, get_or, slice_get, sym, ap, ◌∙◌, subst, refl, arith, eqb-true, eq-eqb}
use Rattle.std.specs.List.{All, list_all, list_any, filter}
use Rattle.std.proofs.lemmas.Bool.{both_ways}
use Rattle.std.proofs.lemmas.List.Elements.{All-nil, All-cons, All-head, All-tail}
use Rattle.vs_design.specs.Accepted.{is_empty}
use Rattle.vs_design.specs.Cycles.{AreApart}
use Rattle.vs_design.specs.Designs.{Process}
use Rattle.vs_design.specs.Footprints.{contains, without}
use Rattle.vs_design.specs.Sizes.{distinct}
use Rattle.vs_program.specs.Layouts.{place_of}

pub by_test : {P : Type 0} (b : Bool) → (b ≡ true → P) → (b ≡ false → P) → P
by_test true f g = f refl
by_test false f g = g refl

pub and_true : (u v : Bool) → (u && v) ≡ true → (u ≡ true) × (v ≡ true)
and_true true true h = (refl, refl)
and_true true false h = cc
and_true false v h = cc

pub or_right : (u v : Bool) → v ≡ true → (u || v) ≡ true
or_right true v h = refl
or_right false v h = h

pub contains-append : (xs ys : List ℕ) (b : ℕ) → contains (xs ++ ys) b ≡ (contains xs b || contains ys b)
contains-append [] ys b = refl
contains-append (x ∷ xs) ys b = by_test (b == x)
    (λ e. rw e refl)
    (λ e. rw e (contains-append xs ys b))

pub first_in : (b : ℕ) (bs : List ℕ) → contains (b ∷ bs) b ≡ true
first_in b bs = ap (λ c. c || contains bs b) (eq-eqb b b refl)

pub rest_in : (b : ℕ) (bs : List ℕ) (c : ℕ) → contains bs c ≡ true → contains (b ∷ bs) c ≡ true
rest_in b bs c h = or_right (c == b) (contains bs c) h

-- what holds of each number that the list has holds of its elements
pub all_from : (P : ℕ → Type 0) (bs : List ℕ) → ((b : ℕ) → contains bs b ≡ true → P b) → All P bs
all_from P [] h = All-nil P
all_from P (b ∷ bs) h = All-cons P b bs (h b (first_in b bs)) (all_from P bs (λ c k. h c (rest_in b bs c k)))

pub from_all : (P : ℕ → Type 0) (bs : List ℕ) → All P bs → (b : ℕ) → contains bs b ≡ true → P b
from_all P [] h b k = cc
from_all P (c ∷ cs) h b k =
    by_test (b == c)
    (λ e. subst P (sym (eqb-true b c e)) (All-head P c cs h))
    (λ e. from_all P cs (All-tail P c cs h) b (subst (λ z. (z || contains cs b) ≡ true) e k))

-- whether some number of a list passes a test depends on the numbers that it has alone
pub any_in : (test : ℕ → Bool) (bs : List ℕ) (b : ℕ) → contains bs b ≡ true → test b ≡ true → list_any test bs ≡ true
any_in test [] b h k = cc
any_in test (c ∷ cs) b h k =
    by_test (b == c)
    (λ e. ap (λ z. z || list_any test cs) (ap test (sym (eqb-true b c e)) ∙ k))
    (λ e. or_right (test c) (list_any test cs) (any_in test cs b (subst (λ z. (z || contains cs b) ≡ true) e h) k))

any_of : (test : ℕ → Bool) (bs : List ℕ) → list_any test bs ≡ true → (b : ℕ) × (contains bs b ≡ true) × (test b ≡ true)
any_of test [] h = cc
any_of test (c ∷ cs) h =
    by_test (test c)
    (λ e. (c, first_in c cs, e))
    (λ e. let r = any_of test cs (subst (λ z. (z || list_any test cs) ≡ true) e h) in (r.0, rest_in c cs r.0 r.1, r.2))

pub same_any : (test : ℕ → Bool) (bs cs : List ℕ) → ((b : ℕ) → contains bs b ≡ contains cs b) → list_any test bs ≡ list_any test cs
same_any test bs cs same =
    by_test (list_any test bs)
    (λ e. let r = any_of test bs e in e ∙ sym (any_in test cs r.0 (sym (same r.0) ∙ r.1) r.2))
    (λ e. by_test (list_any test cs)
    (λ k. let r = any_of test cs k in absurd (both_ways (list_any test bs) e (any_in test bs r.0 (same r.0 ∙ r.1) r.2)))
    (λ k. e ∙ sym k))

-- and on the test's answers
pub same_test : (f g : ℕ → Bool) (bs : List ℕ) → ((b : ℕ) → f b ≡ g b) → list_any f bs ≡ list_any g bs
same_test f g [] same = refl
same_test f g (b ∷ bs) same = ap (λ z. z || list_any f bs) (same b) ∙ ap (λ z. g b || z) (same_test f g bs same)

and_false : (u : Bool) → (u && false) ≡ false
and_false true = refl
and_false false = refl

pub contains_filter : (f : ℕ → Bool) (xs : List ℕ) (b : ℕ) → contains (filter f xs) b ≡ (contains xs b && f b)
contains_filter f [] b = refl
contains_filter f (x ∷ xs) b =
    by_test (f x)
    (λ e. rw e
    (by_test (b == x)
    (λ k. rw k (sym (subst (λ c. f c ≡ true) (sym (eqb-true b x k)) e)))
    (λ k. rw k (contains_filter f xs b))))
    (λ e. rw e
    (by_test (b == x)
    (λ k.
    let fb : f b ≡ false = subst (λ c. f c ≡ false) (sym (eqb-true b x k)) e in
    rw k (contains_filter f xs b ∙ ap {B = Bool} (λ c. contains xs b && c) fb ∙ and_false (contains xs b) ∙ sym fb))
    (λ k. rw k (contains_filter f xs b))))

pub contains_without : (bs others : List ℕ) (b : ℕ) → contains (without bs others) b ≡ (contains bs b && not (contains others b))
contains_without bs others b = contains_filter (λ c. not (contains others c)) bs b

-- an empty list has no number
pub none_in : (bs : List ℕ) → length bs ≡ 0 → (b : ℕ) → contains bs b ≡ false
none_in [] h b = refl
none_in (c ∷ bs) h b = cc

pub is_none : (bs : List ℕ) → is_empty bs ≡ true → bs ≡ []
is_none [] h = refl
is_none (b ∷ bs) h = cc

-- a process passes the test that all of them pass
pub at_process : (test : Process → Bool) (ps : List Process) (p : ℕ) (x : Process) → list_all test ps ≡ true → slice_get ps p ≡ Some x → test x ≡ true
at_process test [] p x h e = cc
at_process test (y ∷ ps) zero x h e = let same : y ≡ x = some_is y x e in ap test (sym same) ∙ (and_true (test y) (list_all test ps) h).0
  where
    some_is : (a b : Process) → Some a ≡ Some b → a ≡ b
    some_is a b q = cc
at_process test (y ∷ ps) (suc p) x h e = at_process test ps p x (and_true (test y) (list_all test ps) h).1 e

-- ---- how many different numbers there are

-- the list without the first place of the number
erased : ℕ → List ℕ → List ℕ
erased b [] = []
erased b (c ∷ cs) = if b == c then cs else (c ∷ erased b cs)

erased_length : (b : ℕ) (cs : List ℕ) → contains cs b ≡ true → suc (length (erased b cs)) ≡ length cs
unfolding erased
erased_length b [] h = cc
erased_length b (c ∷ cs) h =
    by_test (b == c)
    (λ e. rw e refl)
    (λ e. rw e (ap suc (erased_length b cs (subst (λ z. (z || contains cs b) ≡ true) e h))))

erased_in : (b : ℕ) (cs : List ℕ) (k : ℕ) → (k == b) ≡ false → contains cs k ≡ true → contains (erased b cs) k ≡ true
unfolding erased
erased_in b [] k n h = h
erased_in b (c ∷ cs) k n h =
    by_test (b == c)
    (λ e. rw e
    (let other : (k == c) ≡ false = subst (λ z. (k == z) ≡ false) (eqb-true b c e) n in
    subst (λ z. (z || contains cs k) ≡ true) other h))
    (λ e. rw e
    (by_test (k == c)
    (λ f. rw f refl)
    (λ f. rw f (erased_in b cs k n (subst (λ z. (z || contains cs k) ≡ true) f h)))))

differ : (bs : List ℕ) (b k : ℕ) → contains bs b ≡ false → contains bs k ≡ true → (k == b) ≡ false
differ bs b k none has = by_test (k == b)
    (λ e. absurd (both_ways (contains bs b) none (subst (λ z. contains bs z ≡ true) (eqb-true k b e) has)))
    (λ e. e)

-- a list that has all numbers of another one is as long as that has different ones, or longer
pub distinct_within : (all list : List ℕ) → ((b : ℕ) → contains all b ≡ true → contains list b ≡ true) → distinct all ≤ length list
distinct_within [] list h = omega arith
distinct_within (b ∷ bs) list h =
    by_test (contains bs b)
    (λ e.
    let rest = distinct_within bs list (λ k in_bs. h k (rest_in b bs k in_bs)) in
    let here : distinct (b ∷ bs) ≡ 0 + distinct bs = ap (λ (c : Bool). (if c then 0 else 1) + distinct bs) e in
    omega (arith, rest, here))
    (λ e.
    let rest = distinct_within bs (erased b list) (λ k in_bs. erased_in b list k (differ bs b k e in_bs) (h k (rest_in b bs k in_bs))) in
    let long = erased_length b list (h b (first_in b bs)) in
    let here : distinct (b ∷ bs) ≡ 1 + distinct bs = ap (λ (c : Bool). (if c then 0 else 1) + distinct bs) e in
    omega (arith, rest, here, long))

-- ---- places of numbers in a list

pub member_at : (bs : List ℕ) (k : ℕ) → k < length bs → contains bs (get_or bs k 0) ≡ true
member_at [] k h = absurd (omega (arith, h))
member_at (c ∷ bs) zero h = first_in c bs
member_at (c ∷ bs) (suc k) h = rest_in c bs (get_or bs k 0) (member_at bs k (omega (arith, h)))

-- a number that stands there once stands at its place
pub place_at : (bs : List ℕ) (k : ℕ) → AreApart bs → k < length bs → place_of bs (get_or bs k 0) ≡ k
place_at [] k apart h = absurd (omega (arith, h))
place_at (c ∷ bs) zero apart h = ap (λ (z : Bool). if z then 0 else suc (place_of bs c)) (eq-eqb c c refl)
place_at (c ∷ bs) (suc k) apart h =
    let low : k < length bs = omega (arith, h) in
    let other = differ bs c (get_or bs k 0) apart.0 (member_at bs k low) in
    ap (λ (z : Bool). if z then 0 else suc (place_of bs (get_or bs k 0))) other ∙ ap suc (place_at bs k apart.1 low)

-- ---- more numbers, of which no fewer are different

-- each number of a list once
once_each : List ℕ → List ℕ
once_each [] = []
once_each (x ∷ xs) = if contains xs x then once_each xs else (x ∷ once_each xs)

once_has : (xs : List ℕ) (c : ℕ) → contains xs c ≡ true → contains (once_each xs) c ≡ true
unfolding once_each
once_has [] c h = cc
once_has (x ∷ xs) c h =
    by_test (contains xs x)
    (λ e. rw e (by_test (c == x) (λ k. once_has xs c (ap (contains xs) (eqb-true c x k) ∙ e)) (λ k. once_has xs c (sym (ap (λ (u : Bool). u || contains xs c) k) ∙ h))))
    (λ e. rw e (by_test (c == x) (λ k. ap (λ (u : Bool). u || contains (once_each xs) c) k) (λ k. ap (λ (u : Bool). u || contains (once_each xs) c) k ∙ once_has xs c (sym (ap (λ (u : Bool). u || contains xs c) k) ∙ h))))

once_length : (xs : List ℕ) → length (once_each xs) ≡ distinct xs
unfolding once_each
once_length [] = refl
once_length (x ∷ xs) = let rest = once_length xs in by_test (contains xs x) (λ e. rw e (omega (arith, rest))) (λ e. rw e (omega (arith, rest)))

pub distinct_left : (xs ys : List ℕ) → distinct xs ≤ distinct (xs ++ ys)
distinct_left xs ys =
    let within = distinct_within xs (once_each (xs ++ ys)) (λ b h. once_has (xs ++ ys) b (contains-append xs ys b ∙ ap (λ (u : Bool). u || contains ys b) h)) in
    omega (arith, within, once_length (xs ++ ys))
