-- A search that finds that patterns cover has found one for each list of known bits.
use Rattle.std.proofs.Common.{◌≡◌, ℕ, zero, suc, ◌≤◌, ◌<◌, Bool, true, false, List, [], ◌∷◌, ◌++◌, ◌||◌, ◌&&◌, map, take, drop, get_or, length, if◌then◌else◌, nat_lt, sum_by, ◌^◌, ◌⊎◌, inl, inr, refl, sym, subst, Option, Some, None, arith}
use Rattle.std.specs.List.{list_any, list_all, filter}
use Rattle.vs_four.specs.declared.Bit4.{Bit4}
use Rattle.vs_four.specs.declared.Bit4.TheVariants.{Zero, One, X, Z}
use Rattle.vs_four.specs.Logic.{BitList, all_known}
use Rattle.vs_four.specs.Tables.{is_known}
use Rattle.vs_design.specs.Sets.{Set4, has}
use Rattle.vs_design.specs.Covers.{Pattern, is_free, meets, values_of, at_bit, free_in, least_free, without_bit, half, one_more, splits, is_within, covers}
use Rattle.vs_design.proofs.Lists.{by_test, or_left, or_right, and_both}

pub and_true : (a b : Bool) → a ≡ true → b ≡ true → (a && b) ≡ true
and_true true b h k = k
and_true false b h k = cc

-- a known bit is in a set that has both
free_has : (s : Set4) (v : Bit4) → is_free s ≡ true → is_known v ≡ true → has s v ≡ true
free_has s Zero h k = (and_both s.zero? s.one? h).0
free_has s One h k = (and_both s.zero? s.one? h).1
free_has s X h k = cc
free_has s Z h k = cc

free_meets : (p : Pattern) (vs : BitList) → list_all is_free p ≡ true → all_known vs ≡ true → meets p vs ≡ true
free_meets [] vs h k = refl
free_meets (s ∷ p) [] h k = refl
free_meets (s ∷ p) (v ∷ vs) h k =
    let a = and_both (is_free s) (list_all is_free p) h in
    let b = and_both (is_known v) (all_known vs) k in
    and_true (has s v) (meets p vs) (free_has s v a.0 b.0) (free_meets p vs a.1 b.1)

free_found : (ps : List Pattern) (vs : BitList) → list_any (list_all is_free) ps ≡ true → all_known vs ≡ true → list_any (λ p. meets p vs) ps ≡ true
free_found [] vs h k = h
free_found (p ∷ ps) vs h k = by_test (list_all is_free p)
    (λ e. or_left (meets p vs) (list_any (λ p. meets p vs) ps) (free_meets p vs e k))
    (λ e. or_right (meets p vs) (list_any (λ p. meets p vs) ps) (free_found ps vs (subst (λ (c : Bool). (c || list_any (list_all is_free) ps) ≡ true) e h) k))

-- the bits but bit i
abbrev but : ℕ → BitList → BitList
but i vs = take i vs ++ drop (suc i) vs

meets_but : (i : ℕ) (p : Pattern) (vs : BitList) → has (at_bit i p) (get_or vs i X) ≡ true → meets (without_bit i p) (but i vs) ≡ true → meets p vs ≡ true
meets_but i [] vs h k = refl
meets_but i (s ∷ p) [] h k = refl
meets_but zero (s ∷ p) (v ∷ vs) h k = and_true (has s v) (meets p vs) h k
meets_but (suc i) (s ∷ p) (v ∷ vs) h k =
    let a = and_both (has s v) (meets (without_bit i p) (but i vs)) k in
    and_true (has s v) (meets p vs) a.0 (meets_but i p vs h a.1)

half_found : (i : ℕ) (v : Bit4) (ps : List Pattern) (vs : BitList) → get_or vs i X ≡ v → list_any (λ p. meets p (but i vs)) (half v i ps) ≡ true → list_any (λ p. meets p vs) ps ≡ true
half_found i v [] vs e h = h
half_found i v (p ∷ ps) vs e h = go (has (at_bit i p) v) refl h (half_found i v ps vs e)
  where
    go : (c : Bool) → has (at_bit i p) v ≡ c → list_any (λ p. meets p (but i vs)) (map (without_bit i) (if c then (p ∷ filter (λ p. has (at_bit i p) v) ps) else filter (λ p. has (at_bit i p) v) ps)) ≡ true
        → (list_any (λ p. meets p (but i vs)) (half v i ps) ≡ true → list_any (λ p. meets p vs) ps ≡ true) → (meets p vs || list_any (λ p. meets p vs) ps) ≡ true
    go true c h later = by_test (meets (without_bit i p) (but i vs))
        (λ m. or_left (meets p vs) (list_any (λ p. meets p vs) ps) (meets_but i p vs (subst (λ x. has (at_bit i p) x ≡ true) (sym e) c) m))
        (λ m. or_right (meets p vs) (list_any (λ p. meets p vs) ps) (later (subst (λ (x : Bool). (x || list_any (λ p. meets p (but i vs)) (half v i ps)) ≡ true) m h)))
    go false c h later = or_right (meets p vs) (list_any (λ p. meets p vs) ps) (later h)

-- the bit on which patterns are split is one of theirs
least_within : (n : ℕ) (ps : List Pattern) → least_free n ps ≤ n
least_within zero ps = omega arith
least_within (suc n) ps = let h = least_within n ps in by_test (nat_lt (free_in (suc n) ps) (free_in (least_free n ps) ps))
    (λ e. rw e (omega arith))
    (λ e. rw e (omega (arith, h)))

-- one of the known bits, and the others
bit_known : (i : ℕ) (vs : BitList) → i < length vs → all_known vs ≡ true → (get_or vs i X ≡ Zero) ⊎ (get_or vs i X ≡ One)
bit_known i [] l k = absurd (omega (arith, l))
bit_known zero (Zero ∷ vs) l k = inl refl
bit_known zero (One ∷ vs) l k = inr refl
bit_known zero (X ∷ vs) l k = cc
bit_known zero (Z ∷ vs) l k = cc
bit_known (suc i) (v ∷ vs) l k = bit_known i vs (omega (arith, l)) (and_both (is_known v) (all_known vs) k).1

but_known : (i : ℕ) (vs : BitList) → all_known vs ≡ true → all_known (but i vs) ≡ true
but_known zero [] k = refl
but_known (suc i) [] k = refl
but_known zero (v ∷ vs) k = (and_both (is_known v) (all_known vs) k).1
but_known (suc i) (v ∷ vs) k = let a = and_both (is_known v) (all_known vs) k in and_true (is_known v) (all_known (but i vs)) a.0 (but_known i vs a.1)

but_length : (i n : ℕ) (vs : BitList) → length vs ≡ suc n → i ≤ n → length (but i vs) ≡ n
but_length i n [] h l = absurd (omega (arith, h))
but_length zero n (v ∷ vs) h l = omega (arith, h)
but_length (suc i) zero (v ∷ vs) h l = absurd (omega (arith, l))
but_length (suc i) (suc n) (v ∷ vs) h l = let r = but_length i n vs (omega (arith, h)) (omega (arith, l)) in omega (arith, r)

-- ---- the search

found_or_split : (a b : Bool) (o : Option ℕ) (k : ℕ) → (if a then Some 0 else (if b then None else o)) ≡ Some k → (a ≡ true) ⊎ (o ≡ Some k)
found_or_split true b o k h = inl refl
found_or_split false true o k h = cc
found_or_split false false o k h = inr h

left_some : (x y : Option ℕ) (k : ℕ) → one_more x y ≡ Some k → (a : ℕ) × (x ≡ Some a)
left_some (Some a) (Some b) k h = (a, refl)
left_some (Some a) None k h = cc
left_some None y k h = cc

right_some : (x y : Option ℕ) (k : ℕ) → one_more x y ≡ Some k → (b : ℕ) × (y ≡ Some b)
right_some (Some a) (Some b) k h = (b, refl)
right_some (Some a) None k h = cc
right_some None y k h = cc

pub splits_found : (n : ℕ) (ps : List Pattern) (k : ℕ) (vs : BitList) → splits n ps ≡ Some k → length vs ≡ n → all_known vs ≡ true → list_any (λ p. meets p vs) ps ≡ true
splits_found zero ps k vs h l known = go (list_any (list_all is_free) ps) refl h
  where
    go : (c : Bool) → list_any (list_all is_free) ps ≡ c → (if c then Some 0 else None) ≡ Some k → list_any (λ p. meets p vs) ps ≡ true
    go true e h = free_found ps vs e known
    go false e h = cc
splits_found (suc n) ps k vs h l known =
    let i = least_free n ps in
    let w = least_within n ps in
    elim (found_or_split (list_any (list_all is_free) ps) (nat_lt (sum_by values_of ps) (2 ^ suc n)) (one_more (splits n (half Zero i ps)) (splits n (half One i ps))) k h) [
      | inl e ↦ free_found ps vs e known
      | inr e ↦ elim (bit_known i vs (omega (arith, l, w)) known) [
        | inl z ↦ (let a = left_some (splits n (half Zero i ps)) (splits n (half One i ps)) k e in half_found i Zero ps vs z (splits_found n (half Zero i ps) a.0 (but i vs) a.1 (but_length i n vs l w) (but_known i vs known)))
        | inr z ↦ (let a = right_some (splits n (half Zero i ps)) (splits n (half One i ps)) k e in half_found i One ps vs z (splits_found n (half One i ps) a.0 (but i vs) a.1 (but_length i n vs l w) (but_known i vs known)))
      ]
    ]

pub covers_found : (n : ℕ) (ps : List Pattern) (vs : BitList) → covers n ps ≡ true → length vs ≡ n → all_known vs ≡ true → list_any (λ p. meets p vs) ps ≡ true
covers_found n ps vs h l known = go (splits n ps) refl h
  where
    go : (o : Option ℕ) → splits n ps ≡ o → is_within 65536 o ≡ true → list_any (λ p. meets p vs) ps ≡ true
    go (Some k) e h = splits_found n ps k vs e l known
    go None e h = cc
