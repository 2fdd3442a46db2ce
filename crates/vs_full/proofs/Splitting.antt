-- A search with so many splits left.
use Rattle.std.proofs.Common.{◌≡◌, ℕ, zero, suc, ◌+◌, ◌^◌, ◌<◌, ◌≤◌, ◌≢◌, Bool, true, false, List, [], ◌∷◌, length, map, if◌then◌else◌, nat_lt, Option, Some, None, refl, sym, ap, ◌∙◌, subst, arith}
use Rattle.std.specs.Prelude.{sum_by}
use Rattle.std.specs.List.{list_any, list_all, filter}
use Rattle.std.proofs.lemmas.List.Elements.{All-cons, All-nil}
use Rattle.vs_four.specs.declared.Bit4.{Bit4}
use Rattle.vs_four.specs.declared.Bit4.TheVariants.{Zero, One}
use Rattle.vs_design.specs.Sets.{has}
use Rattle.vs_design.specs.Covers.{Pattern, is_free, values_of, at_bit, without_bit, half, least_free, one_more, splits, is_within}
use Rattle.vs_full.specs.Searched.{AreLong, IsLeft}

abbrev Free : List Pattern → Bool
Free ps = list_any (list_all is_free) ps

lt_true : (a b : ℕ) → a < b → nat_lt a b ≡ true
lt_true a b h = grind arith

lt_false : (a b : ℕ) → b ≤ a → nat_lt a b ≡ false
lt_false a b h = grind arith

-- ---- where nothing is split

free_splits : (n : ℕ) (ps : List Pattern) → Free ps ≡ true → splits n ps ≡ Some 0
free_splits zero ps h = ap (λ (c : Bool). if c then Some 0 else None) h
free_splits (suc n) ps h = ap (λ (c : Bool). if c then Some 0 else (if nat_lt (sum_by values_of ps) (2 ^ suc n) then None else (let i = least_free n ps in one_more (splits n (half Zero i ps)) (splits n (half One i ps))))) h

pub free_within : (n left : ℕ) (ps : List Pattern) → Free ps ≡ true → true ≡ is_within (left + 1) (splits n ps)
free_within n left ps h = sym (ap (is_within (left + 1)) (free_splits n ps h) ∙ lt_true 0 (left + 1) (omega arith))

pub free_left : (n left : ℕ) (ps : List Pattern) → Free ps ≡ true → IsLeft left left (splits n ps)
free_left n left ps h = let same : left ≡ 0 + left = omega arith in subst (IsLeft left left) (sym (free_splits n ps h)) same

pub none_within : (left : ℕ) (ps : List Pattern) → Free ps ≡ false → false ≡ is_within (left + 1) (splits 0 ps)
none_within left ps h = sym (ap (is_within (left + 1)) (ap (λ (c : Bool). if c then Some 0 else None) h))

-- ---- where they are split

split_is : (n : ℕ) (ps : List Pattern) → Free ps ≡ false → splits (suc n) ps ≡ (if nat_lt (sum_by values_of ps) (2 ^ suc n) then None else (let i = least_free n ps in one_more (splits n (half Zero i ps)) (splits n (half One i ps))))
split_is n ps h = ap (λ (c : Bool). if c then Some 0 else (if nat_lt (sum_by values_of ps) (2 ^ suc n) then None else (let i = least_free n ps in one_more (splits n (half Zero i ps)) (splits n (half One i ps))))) h

few_none : (n : ℕ) (ps : List Pattern) → Free ps ≡ false → nat_lt (sum_by values_of ps) (2 ^ suc n) ≡ true → splits (suc n) ps ≡ None
few_none n ps h f = split_is n ps h ∙ ap (λ (c : Bool). if c then None else (let i = least_free n ps in one_more (splits n (half Zero i ps)) (splits n (half One i ps)))) f

parted : (n : ℕ) (ps : List Pattern) → Free ps ≡ false → nat_lt (sum_by values_of ps) (2 ^ suc n) ≡ false → splits (suc n) ps ≡ one_more (splits n (half Zero (least_free n ps) ps)) (splits n (half One (least_free n ps) ps))
parted n ps h f = split_is n ps h ∙ ap (λ (c : Bool). if c then None else (let i = least_free n ps in one_more (splits n (half Zero i ps)) (splits n (half One i ps)))) f

-- by the number of bits
pub few_within : (n left : ℕ) (ps : List Pattern) → Free ps ≡ false → n ≢ 0 → nat_lt (sum_by values_of ps) (2 ^ n) ≡ true → false ≡ is_within (left + 1) (splits n ps)
few_within zero left ps h some f = absurd (some refl)
few_within (suc n) left ps h some f = sym (ap (is_within (left + 1)) (few_none n ps h f))

none_of_none : (a b : Option ℕ) → is_within 1 (one_more a b) ≡ false
none_of_none (Some a) (Some b) = lt_false (suc (a + b)) 1 (omega arith)
none_of_none (Some a) None = refl
none_of_none None b = refl

pub over_within : (n left : ℕ) (ps : List Pattern) → Free ps ≡ false → n ≢ 0 → nat_lt (sum_by values_of ps) (2 ^ n) ≡ false → left ≡ 0 → false ≡ is_within (left + 1) (splits n ps)
over_within zero left ps h some f e = absurd (some refl)
over_within (suc n) left ps h some f e =
    let one : left + 1 ≡ 1 = omega (arith, e) in
    sym (ap (is_within (left + 1)) (parted n ps h f)
    ∙ ap (λ m. is_within m (one_more (splits n (half Zero (least_free n ps) ps)) (splits n (half One (least_free n ps) ps)))) one
    ∙ none_of_none (splits n (half Zero (least_free n ps) ps)) (splits n (half One (least_free n ps) ps)))

-- the first half isn't found
first_fails : (left : ℕ) (a b : Option ℕ) → false ≡ is_within left a → is_within (left + 1) (one_more a b) ≡ false
first_fails left (Some a) (Some b) h = lt_false (suc (a + b)) (left + 1) (let e = not_below a left (sym h) in omega (arith, e))
  where
    not_below : (a b : ℕ) → nat_lt a b ≡ false → b ≤ a
    not_below a b h = grind arith
first_fails left (Some a) None h = refl
first_fails left None b h = refl

-- it is, and so many splits are left for the second
second_found : (left one two : ℕ) (a b : Option ℕ) → left ≡ one + 1 → IsLeft one two a → is_within (left + 1) (one_more a b) ≡ is_within (two + 1) b
second_found left one two (Some a) (Some b) e h = same_test (suc (a + b)) (left + 1) b (two + 1) (λ l. omega (arith, e, h, l)) (λ l. omega (arith, e, h, l))
  where
    same_test : (m n k l : ℕ) → (m < n → k < l) → (k < l → m < n) → nat_lt m n ≡ nat_lt k l
    same_test m n k l f g = go (nat_lt m n) refl
      where
        below : (a b : ℕ) → nat_lt a b ≡ true → a < b
        below a b h = grind arith

        go : (c : Bool) → nat_lt m n ≡ c → nat_lt m n ≡ nat_lt k l
        go true q = q ∙ sym (lt_true k l (f (below m n q)))
        go false q = other (nat_lt k l) refl
          where
            other : (c : Bool) → nat_lt k l ≡ c → nat_lt m n ≡ nat_lt k l
            other true r = lt_true m n (g (below k l r)) ∙ sym r
            other false r = q ∙ sym r
second_found left one two (Some a) None e h = refl
second_found left one two None b e h = absurd h

both_left : (left one two three : ℕ) (a b : Option ℕ) → left ≡ one + 1 → IsLeft one two a → IsLeft two three b → IsLeft left three (one_more a b)
both_left left one two three (Some a) (Some b) e h k = omega (arith, e, h, k)
both_left left one two three (Some a) None e h k = absurd k
both_left left one two three None b e h k = absurd h

-- what is found of the first half, and of the second
pub not_first : (n m left one : ℕ) (ps zeros : List Pattern) (i : ℕ) → Free ps ≡ false → n ≡ m + 1 → nat_lt (sum_by values_of ps) (2 ^ n) ≡ false → left ≡ one + 1 → i ≡ least_free m ps → zeros ≡ half Zero i ps
    → false ≡ is_within (one + 1) (splits m zeros) → false ≡ is_within (left + 1) (splits n ps)
not_first n m left one ps zeros i h long f e least z found =
    let next : n ≡ suc m = omega (arith, long) in
    let first : splits m zeros ≡ splits m (half Zero (least_free m ps) ps) = ap (splits m) (z ∙ ap (λ k. half Zero k ps) least) in
    let fails : false ≡ is_within left (splits m (half Zero (least_free m ps) ps)) = found ∙ ap (λ k. is_within k (splits m zeros)) (sym e) ∙ ap (is_within left) first in
    sym (ap (λ k. is_within (left + 1) (splits k ps)) next ∙ ap (is_within (left + 1)) (parted m ps h (ap (λ k. nat_lt (sum_by values_of ps) (2 ^ k)) (sym next) ∙ f))
    ∙ first_fails left (splits m (half Zero (least_free m ps) ps)) (splits m (half One (least_free m ps) ps)) fails)

pub then_second : (n m left one two : ℕ) (ps zeros ones : List Pattern) (i : ℕ) (r : Bool) → Free ps ≡ false → n ≡ m + 1 → nat_lt (sum_by values_of ps) (2 ^ n) ≡ false → left ≡ one + 1 → i ≡ least_free m ps → zeros ≡ half Zero i ps → ones ≡ half One i ps
    → IsLeft one two (splits m zeros) → r ≡ is_within (two + 1) (splits m ones) → r ≡ is_within (left + 1) (splits n ps)
then_second n m left one two ps zeros ones i r h long f e least z o taken found =
    let next : n ≡ suc m = omega (arith, long) in
    let first : splits m zeros ≡ splits m (half Zero (least_free m ps) ps) = ap (splits m) (z ∙ ap (λ k. half Zero k ps) least) in
    let second : splits m ones ≡ splits m (half One (least_free m ps) ps) = ap (splits m) (o ∙ ap (λ k. half One k ps) least) in
    found ∙ ap (is_within (two + 1)) second
    ∙ sym (ap (λ k. is_within (left + 1) (splits k ps)) next ∙ ap (is_within (left + 1)) (parted m ps h (ap (λ k. nat_lt (sum_by values_of ps) (2 ^ k)) (sym next) ∙ f))
    ∙ second_found left one two (splits m (half Zero (least_free m ps) ps)) (splits m (half One (least_free m ps) ps)) e (subst (IsLeft one two) first taken))

pub left_of_both : (n m left one two three : ℕ) (ps zeros ones : List Pattern) (i : ℕ) → Free ps ≡ false → n ≡ m + 1 → nat_lt (sum_by values_of ps) (2 ^ n) ≡ false → left ≡ one + 1 → i ≡ least_free m ps → zeros ≡ half Zero i ps → ones ≡ half One i ps
    → IsLeft one two (splits m zeros) → IsLeft two three (splits m ones) → IsLeft left three (splits n ps)
left_of_both n m left one two three ps zeros ones i h long f e least z o taken more =
    let next : n ≡ suc m = omega (arith, long) in
    let first : splits m zeros ≡ splits m (half Zero (least_free m ps) ps) = ap (splits m) (z ∙ ap (λ k. half Zero k ps) least) in
    let second : splits m ones ≡ splits m (half One (least_free m ps) ps) = ap (splits m) (o ∙ ap (λ k. half One k ps) least) in
    subst (IsLeft left three) (sym (ap (λ k. splits k ps) next ∙ parted m ps h (ap (λ k. nat_lt (sum_by values_of ps) (2 ^ k)) (sym next) ∙ f)))
    (both_left left one two three (splits m (half Zero (least_free m ps) ps)) (splits m (half One (least_free m ps) ps)) e (subst (IsLeft one two) first taken) (subst (IsLeft two three) second more))

-- ---- lengths

length_without : (i : ℕ) (p : Pattern) → i < length p → length (without_bit i p) + 1 ≡ length p
length_without i [] h = absurd (omega arith)
length_without zero (s ∷ p) h = omega arith
length_without (suc i) (s ∷ p) h = let e = length_without i p (omega (arith, h)) in omega (arith, e)

pub half_long : (v : Bit4) (i m : ℕ) (ps : List Pattern) → i ≤ m → AreLong (m + 1) ps → AreLong m (half v i ps)
half_long v i m [] h long = All-nil (λ (p : Pattern). length p ≡ m)
half_long v i m (p ∷ ps) h long = go (has (at_bit i p) v) (half_long v i m ps h (λ k d l. long (suc k) d (omega (arith, l))))
  where
    here : length (without_bit i p) ≡ m
    here = let l = long 0 p (omega arith) in let e = length_without i p (omega (arith, h, l)) in omega (arith, e, l)

    go : (c : Bool) → AreLong m (half v i ps) → AreLong m (map (without_bit i) (if c then (p ∷ filter (λ q. has (at_bit i q) v) ps) else filter (λ q. has (at_bit i q) v) ps))
    go true rest = All-cons (λ (q : Pattern). length q ≡ m) (without_bit i p) (half v i ps) here rest
    go false rest = rest

pub half_few : (v : Bit4) (i : ℕ) (ps : List Pattern) → length (half v i ps) ≤ length ps
half_few v i [] = omega arith
half_few v i (p ∷ ps) = go (has (at_bit i p) v) (half_few v i ps)
  where
    go : (c : Bool) → length (half v i ps) ≤ length ps → length (map (without_bit i) (if c then (p ∷ filter (λ q. has (at_bit i q) v) ps) else filter (λ q. has (at_bit i q) v) ps)) ≤ suc (length ps)
    go true rest = omega (arith, rest)
    go false rest = omega (arith, rest)
