-- How many values patterns have, one more at a time.
use Rattle.std.proofs.Common.{◌≡◌, ℕ, zero, suc, ◌+◌, ◌-◌, ◌*◌, ◌^◌, ◌<◌, ◌≤◌, Bool, true, false, List, [], ◌∷◌, ◌++◌, length, map, take, drop, get_or, if◌then◌else◌, refl, sym, ap, ◌∙◌, subst, arith}
use Rattle.std.specs.Prelude.{sum_by}
use Rattle.std.specs.List.{filter}
use Rattle.std.proofs.lemmas.List.{drop_more, take_more}
use Rattle.std.proofs.lemmas.List.Sums.{sum_by-cons}
use Rattle.vs_four.specs.declared.Bit4.{Bit4}
use Rattle.vs_design.specs.Sets.{Set4, has}
use Rattle.vs_design.specs.Covers.{Pattern, is_free, values_of, at_bit, free_in, without_bit, half}

twice_power : (n l : ℕ) → n < l → 2 ^ (l - n) ≡ 2 * 2 ^ (l - (n + 1))
twice_power n l h = let k : l - n ≡ suc (l - (n + 1)) = omega (arith, h) in ap (λ e. 2 ^ e) k ∙ omega arith

-- a bit more in front of a pattern
pub record IsCounted (p : Pattern) (n count : ℕ) : Type 0 where
  pub inside : n ≤ length p
  pub value : count ≡ values_of (drop n p)
  pub most : count ≤ 2 ^ (length p - n)

pub counted_more : (p : Pattern) (n count new : ℕ) (d : Set4) (free : Bool) → n < length p → is_free (get_or p n d) ≡ free → new ≡ (if free then count + count else count) → IsCounted p (n + 1) count → IsCounted p n new
counted_more p n count new d true inside free is h =
    let front : values_of (drop n p) ≡ 2 * values_of (drop (n + 1) p) = ap values_of (drop_more p n d inside) ∙ ap (λ (c : Bool). (if c then 2 else 1) * values_of (drop (n + 1) p)) free in
    record { inside = omega (arith, inside); value = omega (arith, front, is, h.value); most = omega (arith, is, h.most, twice_power n (length p) inside) }
counted_more p n count new d false inside free is h =
    let front : values_of (drop n p) ≡ 1 * values_of (drop (n + 1) p) = ap values_of (drop_more p n d inside) ∙ ap (λ (c : Bool). (if c then 2 else 1) * values_of (drop (n + 1) p)) free in
    record { inside = omega (arith, inside); value = omega (arith, front, is, h.value); most = omega (arith, is, h.most, twice_power n (length p) inside) }

power_rises : (k m : ℕ) → 2 ^ k ≤ 2 ^ (k + m)
power_rises k zero = let same : k ≡ k + 0 = omega arith in subst (λ e. 2 ^ k ≤ 2 ^ e) same (omega arith)
power_rises k (suc m) =
    let rest = power_rises k m in
    let next : k + suc m ≡ suc (k + m) = omega arith in
    subst (λ e. 2 ^ k ≤ 2 ^ e) (sym next) (omega (arith, rest))

pub power_most : (k n : ℕ) → k ≤ n → 2 ^ k ≤ 2 ^ n
power_most k n h = let same : k + (n - k) ≡ n = omega (arith, h) in subst (λ e. 2 ^ k ≤ 2 ^ e) same (power_rises k (n - k))

pub power_next : (k : ℕ) → 2 ^ (k + 1) ≡ 2 ^ k + 2 ^ k
power_next k = let next : k + 1 ≡ suc k = omega arith in ap (λ e. 2 ^ e) next ∙ omega arith

-- ---- lists of patterns

sum_last : (ps : List Pattern) (p : Pattern) → sum_by values_of (ps ++ p ∷ []) ≡ sum_by values_of ps + values_of p
sum_last [] p = sum_by-cons values_of p [] ∙ omega arith
sum_last (q ∷ ps) p = sum_by-cons values_of q (ps ++ p ∷ []) ∙ ap (λ n. values_of q + n) (sum_last ps p) ∙ (let e = sum_by-cons values_of q ps in omega (arith, e))

pub sum_more : (ps : List Pattern) (i : ℕ) (p : Pattern) → i < length ps → p ≡ get_or ps i p → sum_by values_of (take (i + 1) ps) ≡ sum_by values_of (take i ps) + values_of p
sum_more ps i p h is = ap (λ (qs : List Pattern). sum_by values_of qs) (take_more ps i p h ∙ ap (λ (q : Pattern). take i ps ++ q ∷ []) (sym is)) ∙ sum_last (take i ps) p

kept_last : (test : Pattern → Bool) (ps : List Pattern) (p : Pattern) → filter test (ps ++ p ∷ []) ≡ filter test ps ++ (if test p then (p ∷ []) else [])
kept_last test [] p = refl
kept_last test (q ∷ ps) p = go (test q) (kept_last test ps p)
  where
    go : (c : Bool) → filter test (ps ++ p ∷ []) ≡ filter test ps ++ (if test p then (p ∷ []) else []) → (if c then (q ∷ filter test (ps ++ p ∷ [])) else filter test (ps ++ p ∷ [])) ≡ (if c then (q ∷ filter test ps) else filter test ps) ++ (if test p then (p ∷ []) else [])
    go true rest = ap (λ (xs : List Pattern). q ∷ xs) rest
    go false rest = rest

-- one more that may leave the bit free
pub free_more : (i : ℕ) (ps : List Pattern) (k : ℕ) (p : Pattern) (count new : ℕ) (free : Bool) → k < length ps → p ≡ get_or ps k p → is_free (at_bit i p) ≡ free → new ≡ (if free then count + 1 else count)
    → count ≡ free_in i (take k ps) → new ≡ free_in i (take (k + 1) ps)
free_more i ps k p count new free h is at n c =
    n ∙ added free at ∙ sym (ap (λ (qs : List Pattern). free_in i qs) (take_more ps k p h ∙ ap (λ (q : Pattern). take k ps ++ q ∷ []) (sym is)))
  where
    one : (c : Bool) (xs : List Pattern) → length (xs ++ (if c then (p ∷ []) else [])) ≡ (if c then length xs + 1 else length xs)
    one true [] = refl
    one false [] = refl
    one true (x ∷ xs) = let e = one true xs in omega (arith, e)
    one false (x ∷ xs) = let e = one false xs in omega (arith, e)

    added : (free : Bool) → is_free (at_bit i p) ≡ free → (if free then count + 1 else count) ≡ free_in i (take k ps ++ p ∷ [])
    added free e =
        let test : Pattern → Bool = λ q. is_free (at_bit i q) in
        ap (λ (m : ℕ). if free then m + 1 else m) c
        ∙ sym (ap (λ (qs : List Pattern). length qs) (kept_last test (take k ps) p)
        ∙ one (is_free (at_bit i p)) (filter test (take k ps))
        ∙ ap (λ (t : Bool). if t then length (filter test (take k ps)) + 1 else length (filter test (take k ps))) e)

-- one more that may stand in a half
pub half_more : (v : Bit4) (i : ℕ) (ps : List Pattern) (k : ℕ) (p : Pattern) (kept new : List Pattern) (stands : Bool) → k < length ps → p ≡ get_or ps k p → has (at_bit i p) v ≡ stands
    → new ≡ (if stands then kept ++ without_bit i p ∷ [] else kept) → kept ≡ half v i (take k ps) → new ≡ half v i (take (k + 1) ps)
half_more v i ps k p kept new stands h is at n c =
    n ∙ added stands at ∙ sym (ap (half v i) (take_more ps k p h ∙ ap (λ (q : Pattern). take k ps ++ q ∷ []) (sym is)))
  where
    test : Pattern → Bool
    test q = has (at_bit i q) v

    one : (c : Bool) (xs : List Pattern) → map (without_bit i) (xs ++ (if c then (p ∷ []) else [])) ≡ (if c then map (without_bit i) xs ++ without_bit i p ∷ [] else map (without_bit i) xs)
    one true [] = refl
    one false [] = refl
    one true (x ∷ xs) = ap (λ (qs : List Pattern). without_bit i x ∷ qs) (one true xs)
    one false (x ∷ xs) = ap (λ (qs : List Pattern). without_bit i x ∷ qs) (one false xs)

    added : (stands : Bool) → has (at_bit i p) v ≡ stands → (if stands then kept ++ without_bit i p ∷ [] else kept) ≡ half v i (take k ps ++ p ∷ [])
    added stands e =
        ap (λ (qs : List Pattern). if stands then qs ++ without_bit i p ∷ [] else qs) c
        ∙ sym (ap (map (without_bit i)) (kept_last test (take k ps) p)
        ∙ one (has (at_bit i p) v) (filter test (take k ps))
        ∙ ap (λ (t : Bool). if t then half v i (take k ps) ++ without_bit i p ∷ [] else half v i (take k ps)) e)
