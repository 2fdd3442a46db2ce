-- The least number above others.
use Rattle.std.proofs.Common.{◌≡◌, ◌≢◌, ℕ, suc, ◌+◌, ◌<◌, max, List, [], ◌∷◌, ◌++◌, length, get_or, take, sym, ap, ◌∙◌, refl, inl, inr, arith}
use Rattle.std.proofs.lemmas.List.{take_more, append-nil}
use Rattle.std.proofs.lemmas.List.Concat.{concat_is, flat_map-append}
use Rattle.std.proofs.lemmas.Bool.{cases_lt}
use Rattle.std.specs.List.{All, Any, concat}
use Rattle.std.proofs.lemmas.List.Elements.{All-nil, All-cons, All-weaker}
use Rattle.std.specs.Ordering.{nat_cmp, ord_max}
use Rattle.std.proofs.lemmas.Grind.{common_steps}
use Rattle.vs_code.specs.Calls.{Call, call_slots, slots_of, count_for}

-- the greater of two numbers
pub max_is : (a b : ℕ) → ord_max nat_cmp a b ≡ max a b
max_is a b = grind (arith, common_steps)

-- of two lists it is the greater of theirs
pub count_for-append : (xs ys : List ℕ) → count_for (xs ++ ys) ≡ max (count_for xs) (count_for ys)
count_for-append [] ys = omega arith
count_for-append (x ∷ xs) ys = omega (arith, count_for-append xs ys)

-- with one more
pub count_for_more : (xs : List ℕ) (i : ℕ) → i < length xs → count_for (take (i + 1) xs) ≡ max (count_for (take i xs)) (get_or xs i 0 + 1)
count_for_more xs i l =
    ap count_for (take_more xs i 0 l) ∙ count_for-append (take i xs) (get_or xs i 0 ∷ []) ∙ omega arith

-- it is above each
pub all_below_count : (xs : List ℕ) → All (λ slot. slot < count_for xs) xs
all_below_count [] = All-nil (λ slot. slot < 0)
all_below_count (x ∷ xs) =
    All-cons (λ slot. slot < max (x + 1) (count_for xs)) x xs (omega arith)
    (All-weaker (λ slot. slot < count_for xs) (λ slot. slot < max (x + 1) (count_for xs)) (λ slot l. omega arith) xs (all_below_count xs))

-- where it isn't 0, it is 1 more than one of them
pub reached : (xs : List ℕ) → count_for xs ≢ 0 → Any (λ slot. slot + 1 ≡ count_for xs) xs
reached [] h = absurd (h refl)
reached (x ∷ xs) h = elim (cases_lt (x + 1) (count_for xs)) [
  | inl l ↦ let r = reached xs (omega arith) in (suc r.0, r.1, omega arith, r.3, omega arith)
  | inr g ↦ (0, x, omega arith, refl, omega arith)
]

-- lists joined, one more
pub concat_more : (xss : List (List ℕ)) (i : ℕ) (d : List ℕ) → i < length xss → concat (take (i + 1) xss) ≡ concat (take i xss) ++ get_or xss i d
concat_more xss i d l =
    ap concat (take_more xss i d l) ∙ concat_is (take i xss ++ get_or xss i d ∷ [])
    ∙ flat_map-append (λ (x : List ℕ). x) (take i xss) (get_or xss i d ∷ [])
    ∙ ap (λ (ys : List ℕ). ys ++ (get_or xss i d ++ [])) (sym (concat_is (take i xss)))
    ∙ ap (λ (ys : List ℕ). concat (take i xss) ++ ys) (append-nil (get_or xss i d))

-- of all slots of calls, with one call more
pub slots_push : (calls : List Call) (call : Call) → count_for (slots_of (calls ++ call ∷ [])) ≡ max (count_for (slots_of calls)) (count_for (call_slots call))
slots_push calls call =
    ap count_for (flat_map-append call_slots calls (call ∷ []))
    ∙ count_for-append (slots_of calls) (call_slots call ++ [])
    ∙ ap (λ (xs : List ℕ). max (count_for (slots_of calls)) (count_for xs)) (append-nil (call_slots call))
