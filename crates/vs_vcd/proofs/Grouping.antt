-- Links of groups.
use Rattle.std.proofs.Common.{◌≡◌, ◌≢◌, inl, inr, ℕ, zero, suc, ◌+◌, ◌-◌, ◌<◌, ◌≤◌, Bool, true, false, List, [], ◌∷◌, length, get_or, drop, set, refl, sym, ap, ◌∙◌, subst, length-set, replicate, arith}
use Rattle.std.specs.Prelude.{slice_get, Option, None, Some, ◌==◌}
use Rattle.std.proofs.Math.Nat.{eq-or-lt_of_le}
use Rattle.std.proofs.Math.Seq.{drop-cons, drop-length, drop-nil}
use Rattle.std.proofs.lemmas.Bool.{eqb-true, eqb-false, eq-eqb, ne_eqb}
use Rattle.std.proofs.lemmas.Option.{get_or_from_slice_get, slice_get_within, slice_get-get_or}
use Rattle.std.proofs.lemmas.List.{get_or-set_other, get_or-replicate, length-replicate}
use Rattle.std.proofs.lemmas.Grind.{get_or-set_at}
use Rattle.vs_vcd.specs.Groups.{is_in, first_in, AreLinkedFrom}

pub drop-at : {X : Type 0} (xs : List X) (n : ℕ) (x : X) → slice_get xs n ≡ Some x → drop n xs ≡ x ∷ drop (suc n) xs
drop-at xs n x e = drop-cons xs n x (slice_get_within xs n x e) ∙ ap (λ y. y ∷ drop (suc n) xs) (get_or_from_slice_get xs n x x e)

first_here : (g n : ℕ) (key : Option ℕ) (keys : List (Option ℕ)) → is_in g key ≡ true → first_in g n (key ∷ keys) ≡ Some n
unfolding first_in
first_here g n key keys h = rw (h, first_in) refl

first_other : (g n : ℕ) (key : Option ℕ) (keys : List (Option ℕ)) → is_in g key ≡ false → first_in g n (key ∷ keys) ≡ first_in g (suc n) keys
unfolding first_in
first_other g n key keys h = rw (h, first_in) refl

pub by_bool : (P : Type 0) (t : Bool) → (t ≡ true → P) → (t ≡ false → P) → P
by_bool P true holds fails = holds refl
by_bool P false holds fails = fails refl

by_equal : (P : Type 0) (a b : ℕ) → (a ≡ b → P) → (a ≢ b → P) → P
by_equal P a b same other = by_bool P (a == b) (λ e. same (eqb-true a b e)) (λ e. other (eqb-false a b e))

same_some : {X : Type 0} (o : Option X) (x y : X) → o ≡ Some x → o ≡ Some y → x ≡ y
same_some o x y p q = cc

-- a number that is in none of the groups
pub linked-kept : (n m groups : ℕ) (keys first next : List (Option ℕ)) (key : Option ℕ) → m ≡ suc n → slice_get keys n ≡ Some key → ((g : ℕ) → g < groups → is_in g key ≡ false) → AreLinkedFrom m groups keys first next → AreLinkedFrom n groups keys first next
linked-kept n m groups keys first next key s e out old =
    let later : AreLinkedFrom (suc n) groups keys first next = subst (λ (k : ℕ). AreLinkedFrom k groups keys first next) s old in
    record {
      groups_long = old.groups_long;
      numbers_long = old.numbers_long;
      first_is = λ g h. later.first_is g h ∙ sym (ap (first_in g n) (drop-at keys n key e) ∙ first_other g n key (drop (suc n) keys) (out g h));
      next_is = λ k g le h f. elim (eq-or-lt_of_le le) [
        | inl same ↦ let is : key ≡ Some g = same_some (slice_get keys n) key (Some g) e (ap (slice_get keys) same ∙ f) in
            let yes_in : is_in g key ≡ true = ap (is_in g) is ∙ eq-eqb g g refl in
            let clash : true ≡ false = sym yes_in ∙ out g h in cc
        | inr more ↦ later.next_is k g more h f
      ];
    }

-- a number in front of its group
pub linked-put : (n m groups : ℕ) (keys first next : List (Option ℕ)) (group : ℕ) → m ≡ suc n → slice_get keys n ≡ Some (Some group) → group < groups → AreLinkedFrom m groups keys first next
    → AreLinkedFrom n groups keys (set first group (Some n)) (set next n (get_or first group None))
linked-put n m groups keys first next group s e in_range old =
    let later : AreLinkedFrom (suc n) groups keys first next = subst (λ (k : ℕ). AreLinkedFrom k groups keys first next) s old in
    let here : drop n keys ≡ Some group ∷ drop (suc n) keys = drop-at keys n (Some group) e in
    let first_long : group < length first = subst (λ (k : ℕ). group < k) (sym old.groups_long) in_range in
    let next_long : n < length next = subst (λ (k : ℕ). n < k) (sym old.numbers_long) (slice_get_within keys n (Some group) e) in
    record {
      groups_long = length-set first group (Some n) ∙ old.groups_long;
      numbers_long = length-set next n (get_or first group None) ∙ old.numbers_long;
      first_is = λ g h. by_equal (get_or (set first group (Some n)) g None ≡ first_in g n (drop n keys)) group g
          (λ same. get_or-set_at first group g (Some n) None (sym same) first_long ∙ sym (ap (first_in g n) here ∙ first_here g n (Some group) (drop (suc n) keys) (eq-eqb group g same)))
          (λ other. get_or-set_other first group g (Some n) None (λ p. other (sym p)) ∙ later.first_is g h ∙ sym (ap (first_in g n) here ∙ first_other g n (Some group) (drop (suc n) keys) (ne_eqb group g other)));
      next_is = λ k g le h f. elim (eq-or-lt_of_le le) [
        | inl same ↦ let keyed : Some group ≡ Some g = same_some (slice_get keys n) (Some group) (Some g) e (ap (slice_get keys) same ∙ f) in
            let is : group ≡ g = same_some (Some group) group g refl keyed in
            get_or-set_at next n k (get_or first group None) None (sym same) next_long ∙ later.first_is group in_range ∙ ap (λ (j : ℕ). first_in j (suc n) (drop (suc n) keys)) is ∙ ap (λ (j : ℕ). first_in g (suc j) (drop (suc j) keys)) same
        | inr more ↦ let ne : k ≢ n = λ (p : k ≡ n). omega arith in
            get_or-set_other next n k (get_or first group None) None ne ∙ later.next_is k g more h f
      ];
    }

-- the number that is found is in the group, and not before the first one
pub key_of_group : (g : ℕ) (key : Option ℕ) → is_in g key ≡ true → key ≡ Some g
key_of_group g None p = cc
key_of_group g (Some k) p = ap Some (eqb-true k g p)

found_in : (g n m : ℕ) (keys : List (Option ℕ)) → first_in g n keys ≡ Some m → (k : ℕ) × (m ≡ n + k) × (slice_get keys k ≡ Some (Some g))
unfolding first_in
found_in g n m [] e = cc
found_in g n m (key ∷ keys) e =
    by_bool ((k : ℕ) × (m ≡ n + k) × (slice_get (key ∷ keys) k ≡ Some (Some g))) (is_in g key)
    (λ p. let same : n ≡ m = same_some (first_in g n (key ∷ keys)) n m (first_here g n key keys p) e in (zero, omega arith, ap Some (key_of_group g key p)))
    (λ p. let rest = found_in g (suc n) m keys (sym (first_other g n key keys p) ∙ e) in (suc rest.0, omega (arith, rest.1), rest.2))

slice_get-drop : {X : Type 0} (xs : List X) (n k : ℕ) → slice_get (drop n xs) k ≡ slice_get xs (n + k)
slice_get-drop [] n k = ap (λ ys. slice_get ys k) (drop-nil n)
slice_get-drop (x ∷ xs) zero k = let e : k ≡ 0 + k = omega arith in ap (slice_get (x ∷ xs)) e
slice_get-drop (x ∷ xs) (suc n) k = let e : suc (n + k) ≡ suc n + k = omega arith in slice_get-drop xs n k ∙ ap (slice_get (x ∷ xs)) e

pub record IsFound (g n m : ℕ) (keys : List (Option ℕ)) : Type 0 where
  pub later : n ≤ m
  pub within : m < length keys
  pub key : slice_get keys m ≡ Some (Some g)

pub first_in-found : (g n m : ℕ) (keys : List (Option ℕ)) → first_in g n (drop n keys) ≡ Some m → IsFound g n m keys
first_in-found g n m keys e =
    let found = found_in g n m (drop n keys) e in
    let key : slice_get keys m ≡ Some (Some g) = ap (slice_get keys) found.1 ∙ sym (slice_get-drop keys n found.0) ∙ found.2 in
    record { later = omega (arith, found.1); within = slice_get_within keys m (Some g) key; key = key }

-- a text by number, from the first number of a group on
unfoldable pub at_number : (ℕ → List ℕ) → Option ℕ → List ℕ
at_number text None = []
at_number text (Some m) = text m

-- what numbers outside of a group leave as it is, and is nothing at the end, is that of the group's first number
pub first_in-text : (text : ℕ → List ℕ) (g low : ℕ) (keys : List (Option ℕ)) → text (length keys) ≡ []
    → ((n : ℕ) (key : Option ℕ) → low ≤ n → slice_get keys n ≡ Some key → is_in g key ≡ false → text n ≡ text (suc n))
    → (d n : ℕ) → n + d ≡ length keys → low ≤ n → text n ≡ at_number text (first_in g n (drop n keys))
unfolding first_in at_number
first_in-text text g low keys end step zero n s h =
    let all : n ≡ length keys = omega arith in
    ap text all ∙ end ∙ ap (λ (ks : List (Option ℕ)). at_number text (first_in g n ks)) (sym (drop-length keys) ∙ ap (λ (k : ℕ). drop k keys) (sym all))
first_in-text text g low keys end step (suc d) n s h =
    let key = get_or keys n None in
    let here : slice_get keys n ≡ Some key = slice_get-get_or keys n None (omega arith) in
    let from : drop n keys ≡ key ∷ drop (suc n) keys = drop-at keys n key here in
    by_bool (text n ≡ at_number text (first_in g n (drop n keys))) (is_in g key)
    (λ p. sym (ap (at_number text) (ap (first_in g n) from ∙ first_here g n key (drop (suc n) keys) p)))
    (λ p. step n key h here p ∙ first_in-text text g low keys end step d (suc n) (omega arith) (omega arith) ∙ sym (ap (at_number text) (ap (first_in g n) from ∙ first_other g n key (drop (suc n) keys) p)))

-- before any number is linked
pub linked-none : (groups : ℕ) (keys first next : List (Option ℕ)) → first ≡ replicate groups None → length next ≡ length keys → AreLinkedFrom (length keys) groups keys first next
unfolding first_in
linked-none groups keys first next none long = record {
  groups_long = ap length none ∙ length-replicate groups None;
  numbers_long = long;
  first_is = λ g h. ap (λ (xs : List (Option ℕ)). get_or xs g None) none ∙ get_or-replicate groups g None None h ∙ sym (ap (first_in g (length keys)) (drop-length keys));
  next_is = λ n g le h e. absurd (omega (arith, slice_get_within keys n (Some g) e));
}

-- how many numbers are left from this one on
abbrev pub numbers_left : ℕ → Option ℕ → ℕ
numbers_left count None = 0
numbers_left count (Some n) = count - n

-- numbers before `low` that are in other groups
pub first_in-skip : (g low : ℕ) (keys : List (Option ℕ)) → low ≤ length keys → ((n : ℕ) (key : Option ℕ) → n < low → slice_get keys n ≡ Some key → is_in g key ≡ false) → first_in g 0 (drop 0 keys) ≡ first_in g low (drop low keys)
first_in-skip g zero keys h out = refl
first_in-skip g (suc low) keys h out =
    let key = get_or keys low None in
    let here : slice_get keys low ≡ Some key = slice_get-get_or keys low None (omega arith) in
    let other : is_in g key ≡ false = out low key (omega arith) here in
    first_in-skip g low keys (omega arith) (λ n k b e. out n k (omega arith) e) ∙ ap (first_in g low) (drop-at keys low key here) ∙ first_other g low key (drop (suc low) keys) other

-- a link to a number of the group
pub record IsLink (keys : List (Option ℕ)) (g : ℕ) (link : Option ℕ) : Type 0 where
  pub found : (n : ℕ) → link ≡ Some n → slice_get keys n ≡ Some (Some g)
