-- Flags that are set one after the other.
use Rattle.std.proofs.Common.{◌≡◌, ℕ, ◌+◌, ◌<◌, ◌≤◌, Bool, true, false, not, ◌||◌, ◌&&◌, ◌==◌, nat_lt, List, [], ◌∷◌, ◌++◌, refl, sym, ap, ◌∙◌, eqb-true, eq-eqb, get_or, length, take, arith, Some}
use Rattle.std.specs.Prelude.{if◌then◌else◌, Result, Ok, Err, MatchResult}
use Rattle.std.specs.List.Sorted.{IsStrictlyIncreasing, IsBinarySearchResult}
use Rattle.std.specs.Ordering.{nat_cmp}
use Rattle.std.specs.Result.{result_ok}
use Rattle.std.proofs.Math.Bool.{beq}
use Rattle.std.proofs.lemmas.Bool.{ltb-true, ltb-false}
use Rattle.std.proofs.lemmas.List.Sorted.{searched}
use Rattle.vs_design.specs.Footprints.{contains}
use Rattle.vs_block.specs.Flags.{bit_at, is_set, IsThere, IsIndexOf, AreSet, AreFlagged, AreFresh}
use Rattle.vs_block.proofs.Truth.{same_flags, contains_more}
use Rattle.vs_reads.proofs.Tests.{by_test, either_way, same_test, contains-append}
use Rattle.vs_shape.proofs.Among.{rises_to}

-- ---- rising lists

-- a number before another is below it
pub rises_below : (xs : List ℕ) → IsStrictlyIncreasing xs → (i j : ℕ) → i < j → j < length xs → get_or xs i 0 < get_or xs j 0
rises_below xs r i j h k =
    let step = r i (omega (arith, h, k)) in
    let rest = rises_to xs r (i + 1) j (omega (arith, h)) k in
    omega (arith, step, rest)

-- two that are equal stand at one place
pub one_place : (xs : List ℕ) → IsStrictlyIncreasing xs → (i j : ℕ) → i < length xs → j < length xs → get_or xs i 0 ≡ get_or xs j 0 → i ≡ j
one_place xs r i j h k e =
    by_test (nat_lt i j)
    (λ l. absurd (let b = rises_below xs r i j (ltb-true i j l) k in omega (arith, b, e)))
    (λ l. by_test (nat_lt j i)
    (λ m. absurd (let b = rises_below xs r j i (ltb-true j i m) h in omega (arith, b, e)))
    (λ m. let x = ltb-false i j l in let y = ltb-false j i m in omega (arith, x, y)))

-- ---- where a bit stands

not_equal : (a b : ℕ) → (a ≡ b → ⊥) → (a == b) ≡ false
not_equal a b h = by_test (a == b) (λ e. absurd (h (eqb-true a b e))) (λ e. e)

there_is : (xs : List ℕ) (b j : ℕ) → IsStrictlyIncreasing xs → j < length xs → get_or xs j 0 ≡ b → IsIndexOf xs b (Some j)
there_is xs b j rises h e k l =
    same_test (get_or xs k 0 == b) (k == j)
    (λ t. eq-eqb k j (one_place xs rises k j l h (eqb-true (get_or xs k 0) b t ∙ sym e)))
    (λ t. eq-eqb (get_or xs k 0) b (ap (λ n. get_or xs n 0) (eqb-true k j t) ∙ e))

pub index_is : (xs : List ℕ) (b : ℕ) (r : Result ℕ ℕ) → IsStrictlyIncreasing xs → IsBinarySearchResult (λ y. nat_cmp y b) xs r → IsThere (length xs) (result_ok r) × IsIndexOf xs b (result_ok r)
index_is xs b r rises is = go r (searched xs b r is (rises_to xs rises))
  where
    go : (r : Result ℕ ℕ) → MatchResult r (λ i. (i < length xs) × (get_or xs i 0 ≡ b)) (λ i. (i ≤ length xs) × ((k : ℕ) → k < i → get_or xs k 0 < b) × ((k : ℕ) → i ≤ k → k < length xs → b < get_or xs k 0)) → IsThere (length xs) (result_ok r) × IsIndexOf xs b (result_ok r)
    go (Ok i) h = (h.0, there_is xs b i rises h.0 h.1)
    go (Err i) h = (tt, λ k l. not_equal (get_or xs k 0) b (apart k l))
      where
        apart : (k : ℕ) → k < length xs → get_or xs k 0 ≡ b → ⊥
        apart k l e =
            by_test (nat_lt k i)
            (λ n. let less : get_or xs k 0 < b = h.1 k (ltb-true k i n) in omega arith)
            (λ n. let less : b < get_or xs k 0 = h.2 k (ltb-false k i n) l in omega arith)

-- ---- bits with a flag

kept_law : (c e s flag : Bool) → (e ≡ true → s ≡ flag) → ((c && (if flag then s else not s)) || (e || false)) ≡ ((c || e) && (if flag then s else not s))
kept_law true true true true h = refl
kept_law true true false false h = refl
kept_law true true true false h = either_way true refl (h refl)
kept_law true true false true h = either_way false (h refl) refl
kept_law false true true true h = refl
kept_law false true false false h = refl
kept_law false true true false h = either_way true refl (h refl)
kept_law false true false true h = either_way false (h refl) refl
kept_law true false true true h = refl
kept_law true false false true h = refl
kept_law true false true false h = refl
kept_law true false false false h = refl
kept_law false false s flag h = refl

left_law : (c e s flag : Bool) → (e ≡ true → s ≡ not flag) → (c && (if flag then s else not s)) ≡ ((c || e) && (if flag then s else not s))
left_law true e s flag h = refl
left_law false false s flag h = refl
left_law false true true true h = either_way true refl (h refl)
left_law false true true false h = refl
left_law false true false true h = refl
left_law false true false false h = either_way false (h refl) refl

pub same_flag : (a flag : Bool) → beq a flag ≡ true → a ≡ flag
same_flag true true h = refl
same_flag true false h = cc
same_flag false true h = cc
same_flag false false h = refl

pub other_flag : (a flag : Bool) → beq a flag ≡ false → a ≡ not flag
other_flag true true h = cc
other_flag true false h = refl
other_flag false true h = refl
other_flag false false h = cc

pub flagged_more : (own bits : List ℕ) (i : ℕ) (flags : List Bool) (flag has : Bool) (found : List ℕ) → i < length bits → ((k : ℕ) → k < length own → (bit_at own k == get_or bits i 0) ≡ true → has ≡ is_set flags k) → has ≡ flag
    → AreFlagged own (take i bits) flags flag found → AreFlagged own (take (i + 1) bits) flags flag (found ++ get_or bits i 0 ∷ [])
flagged_more own bits i flags flag has found h is on f k l =
    let b = bit_at own k in
    let x = get_or bits i 0 in
    contains-append found (x ∷ []) b ∙ ap {B = Bool} (λ t. t || ((b == x) || false)) (f k l) ∙ kept_law (contains (take i bits) b) (b == x) (is_set flags k) flag (λ e. sym (is k l e) ∙ on)
    ∙ ap {B = Bool} (λ c. c && (if flag then is_set flags k else not (is_set flags k))) (sym (contains_more bits i b h))

pub flagged_same : (own bits : List ℕ) (i : ℕ) (flags : List Bool) (flag has : Bool) (found : List ℕ) → i < length bits → ((k : ℕ) → k < length own → (bit_at own k == get_or bits i 0) ≡ true → has ≡ is_set flags k) → has ≡ not flag
    → AreFlagged own (take i bits) flags flag found → AreFlagged own (take (i + 1) bits) flags flag found
flagged_same own bits i flags flag has found h is off f k l =
    let b = bit_at own k in
    let x = get_or bits i 0 in
    f k l ∙ left_law (contains (take i bits) b) (b == x) (is_set flags k) flag (λ e. sym (is k l e) ∙ off)
    ∙ ap {B = Bool} (λ c. c && (if flag then is_set flags k else not (is_set flags k))) (sym (contains_more bits i b h))

-- ---- set and put back

back_law : (c x y z : Bool) → (c ≡ true → x ≡ false) → y ≡ (if c then true else x) → z ≡ (if c then false else y) → z ≡ x
back_law true x y z fresh h g = g ∙ sym (fresh refl)
back_law false x y z fresh h g = g ∙ h

-- bits that weren't assigned, set and put back
pub put_back : (own bits : List ℕ) (first second third : List Bool) → length first ≡ length own → length third ≡ length own → AreFresh own first bits → AreSet own bits true first second → AreSet own bits false second third → third ≡ first
put_back own bits first second third n m fresh f g =
    same_flags third first (m ∙ sym n) (λ k l. let inside : k < length own = omega (arith, l, m) in back_law (contains bits (bit_at own k)) (is_set first k) (is_set second k) (is_set third k) (fresh k inside) (f k inside) (g k inside))
