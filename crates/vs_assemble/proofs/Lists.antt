-- Lists of numbers and the numbers that they have.
use Rattle.std.proofs.Common.{◌≡◌, ℕ, Bool, true, false, List, [], ◌∷◌, ◌++◌, ◌||◌, ◌==◌, sym, ap, ◌∙◌, subst, refl, eqb-true, eq-eqb}
use Rattle.std.specs.List.{All, list_any}
use Rattle.std.proofs.lemmas.Bool.{both_ways}
use Rattle.std.proofs.lemmas.List.Elements.{All-nil, All-cons, All-head, All-tail}
use Rattle.vs_design.specs.Footprints.{contains}

pub by_test : {P : Type 0} (b : Bool) → (b ≡ true → P) → (b ≡ false → P) → P
by_test true f g = f refl
by_test false f g = g refl

pub contains-append : (xs ys : List ℕ) (b : ℕ) → contains (xs ++ ys) b ≡ (contains xs b || contains ys b)
contains-append [] ys b = refl
contains-append (x ∷ xs) ys b = by_test (b == x)
    (λ e. rw e refl)
    (λ e. rw e (contains-append xs ys b))

pub first_in : (b : ℕ) (bs : List ℕ) → contains (b ∷ bs) b ≡ true
first_in b bs = ap (λ c. c || contains bs b) (eq-eqb b b refl)

pub rest_in : (b : ℕ) (bs : List ℕ) (c : ℕ) → contains bs c ≡ true → contains (b ∷ bs) c ≡ true
rest_in b bs c h = by_test (c == b) (λ e. ap (λ z. z || contains bs c) e) (λ e. ap (λ z. z || contains bs c) e ∙ h)

-- what holds of each number that the list has holds of its elements, and the other way
pub all_from : (P : ℕ → Type 0) (bs : List ℕ) → ((b : ℕ) → contains bs b ≡ true → P b) → All P bs
all_from P [] h = All-nil P
all_from P (b ∷ bs) h = All-cons P b bs (h b (first_in b bs)) (all_from P bs (λ c k. h c (rest_in b bs c k)))

pub from_all : (P : ℕ → Type 0) (bs : List ℕ) → All P bs → (b : ℕ) → contains bs b ≡ true → P b
from_all P [] h b k = cc
from_all P (c ∷ cs) h b k =
    by_test (b == c)
    (λ e. subst P (sym (eqb-true b c e)) (All-head P c cs h))
    (λ e. from_all P cs (All-tail P c cs h) b (subst (λ z. (z || contains cs b) ≡ true) e k))

-- whether some number of a list passes a test depends on the numbers that it has alone
any_in : (test : ℕ → Bool) (bs : List ℕ) (b : ℕ) → contains bs b ≡ true → test b ≡ true → list_any test bs ≡ true
any_in test [] b h k = cc
any_in test (c ∷ cs) b h k =
    by_test (b == c)
    (λ e. ap (λ z. z || list_any test cs) (ap test (sym (eqb-true b c e)) ∙ k))
    (λ e. or_true (test c) (list_any test cs) (any_in test cs b (subst (λ z. (z || contains cs b) ≡ true) e h) k))
  where
    or_true : (u v : Bool) → v ≡ true → (u || v) ≡ true
    or_true true v h = refl
    or_true false v h = h

any_of : (test : ℕ → Bool) (bs : List ℕ) → list_any test bs ≡ true → (b : ℕ) × (contains bs b ≡ true) × (test b ≡ true)
any_of test [] h = cc
any_of test (c ∷ cs) h =
    by_test (test c)
    (λ e. (c, first_in c cs, e))
    (λ e. let r = any_of test cs (subst (λ z. (z || list_any test cs) ≡ true) e h) in (r.0, rest_in c cs r.0 r.1, r.2))

pub same_any : (test : ℕ → Bool) (bs cs : List ℕ) → ((b : ℕ) → contains bs b ≡ contains cs b) → list_any test bs ≡ list_any test cs
same_any test bs cs same =
    by_test (list_any test bs)
    (λ e. let r = any_of test bs e in e ∙ sym (any_in test cs r.0 (sym (same r.0) ∙ r.1) r.2))
    (λ e. by_test (list_any test cs)
    (λ k. let r = any_of test cs k in absurd (both_ways (list_any test bs) e (any_in test bs r.0 (same r.0 ∙ r.1) r.2)))
    (λ k. e ∙ sym k))
