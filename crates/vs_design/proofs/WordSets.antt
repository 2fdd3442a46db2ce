-- A word by an address that varies is in the union of the words' sets.
use Rattle.std.proofs.Common.{◌≡◌, ℕ, zero, suc, ◌+◌, ◌*◌, ◌≤◌, ◌<◌, Bool, true, false, List, [], ◌∷◌, ◌&&◌, if◌then◌else◌, refl, sym, ap, ◌∙◌, subst, map, length, take, drop, replicate, get_or, Option, Some, None, arith, length-take, length-drop, ℤ, pos, ◌-ℤ◌}
use Rattle.std.specs.List.{list_any, list_all}
use Rattle.std.proofs.lemmas.Int.{ints}
use Rattle.std.proofs.Math.ListN.{length-replicate}
use Rattle.std.proofs.Math.Seq.{drop-nil}
use Rattle.vs_four.specs.declared.Bit4.TheVariants.{One, X}
use Rattle.vs_four.specs.declared.Bit4.{Bit4}
use Rattle.vs_four.specs.declared.Range.{Range}
use Rattle.vs_four.specs.Logic.{BitList, all_known, map2}
use Rattle.vs_four.specs.Numbers.{integer}
use Rattle.vs_four.specs.Selects.{range_length, is_descending, below, place_of, one_bit, at_place, places}
use Rattle.vs_design.specs.Expressions.{Signal, signal_length, word_length, addresses}
use Rattle.vs_design.specs.Values.{count_from, address_place, select_word}
use Rattle.vs_design.specs.Sets.{Set4, has, only, union, is_known_set, is_unknown_set, all_words, variable}
use Rattle.vs_design.specs.Lifted.{is_inside, least_bits, greatest_bits, surely_inside}
use Rattle.vs_design.specs.TreeLaws.{AllIn, none_in, one_in}
use Rattle.vs_design.proofs.Lists.{by_test, and_both}
use Rattle.vs_design.proofs.Places.{first_place, places_are}
use Rattle.vs_design.proofs.Words.{words_are, word_ends, address_less}
use Rattle.vs_design.proofs.SetBits.{union_left, union_right, all_length, all_take, all_drop, each_known, some_unknown}
use Rattle.vs_design.proofs.SetOps.{Each, each_replicate}
use Rattle.vs_design.proofs.SetReads.{words_long}
use Rattle.vs_design.proofs.Indices.{select_sure}

-- ---- the bits of a word

drop_one : (vs : BitList) (m : ℕ) → m < length vs → drop m vs ≡ get_or vs m X ∷ drop (suc m) vs
drop_one [] m h = absurd (omega arith)
drop_one (v ∷ vs) zero h = refl
drop_one (v ∷ vs) (suc m) h = drop_one vs m (omega arith)

drop_more : {A : Type 0} (k m n : ℕ) (xs : List A) → n ≡ k + m → drop m (drop k xs) ≡ drop n xs
drop_more zero m n xs e = ap (λ j. drop j xs) (omega arith)
drop_more (suc k) m n [] e = ap (drop m) (drop-nil (suc k)) ∙ drop-nil m ∙ sym (drop-nil n)
drop_more (suc k) m zero (x ∷ xs) e = absurd (omega arith)
drop_more (suc k) m (suc n) (x ∷ xs) e = drop_more k m n xs (omega arith)

word_take : (vs : BitList) (m n : ℕ) → m + n ≤ length vs → map (at_place X vs) (map Some (count_from m n)) ≡ take n (drop m vs)
word_take vs m zero h = refl
word_take vs m (suc n) h = ap {B = BitList} (λ xs. get_or vs m X ∷ xs) (word_take vs (suc m) n (omega arith)) ∙ sym (ap {B = BitList} (take (suc n)) (drop_one vs m (omega arith)))

-- ---- each word is in the union of all words

union_first : (ss ts : List Set4) {vs : BitList} → AllIn ss vs → length ts ≡ length ss → AllIn (map2 union ss ts) vs
union_first [] ts none_in l = none_in
union_first (s ∷ ss) [] (one_in e h) l = absurd (omega arith)
union_first (s ∷ ss) (t ∷ ts) (one_in {v} e h) l = one_in (union_left s t v e) (union_first ss ts h (omega arith))

union_second : (ss ts : List Set4) {vs : BitList} → AllIn ts vs → length ts ≡ length ss → AllIn (map2 union ss ts) vs
union_second [] [] none_in l = none_in
union_second (s ∷ ss) [] h l = absurd (omega arith)
union_second [] (t ∷ ts) h l = absurd (omega arith)
union_second (s ∷ ss) (t ∷ ts) (one_in {v} e h) l = one_in (union_right s t v e) (union_second ss ts h (omega arith))

in_words : (k d n : ℕ) {ss : List Set4} {vs : BitList} → AllIn ss vs → n < d → length vs ≡ d * k → AllIn (all_words k d ss) (take k (drop (n * k) vs))
in_words k zero n h l e = absurd (omega arith)
in_words k (suc d) zero {ss} {vs} h l e =
    let t = length-take k ss in
    let dl = length-drop k ss in
    let a = all_length h in
    let rest : length (all_words k d (drop k ss)) ≡ k = words_long k d (drop k ss) (omega (arith, dl, a, e)) in
    let z : 0 ≡ zero * k = omega arith in
    subst (λ j. AllIn (all_words k (suc d) ss) (take k (drop j vs))) z (union_first (take k ss) (all_words k d (drop k ss)) (all_take k h) (rest ∙ omega (arith, t, a, e)))
in_words k (suc d) (suc n) {ss} {vs} h l e =
    let t = length-take k ss in
    let dl = length-drop k ss in
    let dv = length-drop k vs in
    let a = all_length h in
    let rest : length (all_words k d (drop k ss)) ≡ k = words_long k d (drop k ss) (omega (arith, dl, a, e)) in
    subst (λ xs. AllIn (all_words k (suc d) ss) (take k xs)) (drop_more k (n * k) (suc n * k) vs (omega arith))
    (union_second (take k ss) (all_words k d (drop k ss)) (in_words k d n (all_drop k h) (omega arith) (omega (arith, dv, e))) (rest ∙ omega (arith, t, a, e)))

-- ---- all x where there is no word

nones : (n : ℕ) (vs : BitList) → map (at_place X vs) (replicate n None) ≡ replicate n X
nones zero vs = refl
nones (suc n) vs = ap {B = BitList} (λ xs. X ∷ xs) (nones n vs)

no_word : (signal : Signal) (g : Bool) (us vs : BitList) → address_place signal g us ≡ None → select_word signal g vs us ≡ replicate (word_length signal) X
no_word signal g us vs e = rw e (nones (word_length signal) vs)

some_word : (signal : Signal) (g : Bool) (us vs : BitList) (n : ℕ) → address_place signal g us ≡ Some n → length vs ≡ range_length (addresses signal) * word_length signal → select_word signal g vs us ≡ take (word_length signal) (drop (n * word_length signal) vs)
some_word signal g us vs n e l =
    let m = word_ends (range_length (addresses signal)) (word_length signal) n (address_less signal g us n e) in
    rw e (word_take vs (n * word_length signal) (word_length signal) (omega (arith, m, l)))

-- ---- addresses surely in range

-- an address is looked for as the index of a select of one bit is
pub one_place : (r : Range) (g : Bool) (us : BitList) → places (one_bit r) g us ≡ (if all_known us then place_of r (integer g us) else None) ∷ []
one_place r g us = places_are (one_bit r) g us ∙ by_test (all_known us) (λ t. rw t (ap {B = List (Option ℕ)} (λ z. below (range_length r) z ∷ []) (first (integer g us)))) (λ t. rw t refl)
  where
    first : (z : ℤ) → first_place (one_bit r) z ≡ (if is_descending r then (z -ℤ pos r.right) else (pos r.right -ℤ z))
    first z = by_test (is_descending r) (λ d. rw d refl) (λ d. rw d (omega (arith, ints)))

pub sure_place : (signal : Signal) (g : Bool) {ts : List Set4} {us : BitList} → AllIn ts us → surely_inside (one_bit (addresses signal)) g ts ≡ true → address_place signal g us ≡ None → ⊥
sure_place signal g {ts} {us} h sure e = never (subst (λ (ps : List (Option ℕ)). Each (only One) (map (at_place X ones) ps)) (one_place (addresses signal) g us ∙ ap {B = List (Option ℕ)} (λ p. p ∷ []) e) found)
  where
    ones : BitList
    ones = replicate (range_length (addresses signal)) One

    known : all_known us ≡ true
    known = each_known h (and_both (list_all is_known_set ts) (is_inside (one_bit (addresses signal)) g (least_bits g ts)) (and_both (list_all is_known_set ts && is_inside (one_bit (addresses signal)) g (least_bits g ts)) (is_inside (one_bit (addresses signal)) g (greatest_bits g ts)) sure).0).0

    found : Each (only One) (map (at_place X ones) (places (one_bit (addresses signal)) g us))
    found = select_sure (one_bit (addresses signal)) g (only One) ones h sure known (sym (length-replicate (range_length (addresses signal)) One)) (each_replicate (only One) (range_length (addresses signal)) One refl)

    never : Each (only One) (map (at_place X ones) (None ∷ [])) → ⊥
    never k = cc

-- ---- the law

all_xs : (f : Set4 → Set4) (ss : List Set4) (n : ℕ) → length ss ≡ n → ((s : Set4) → has (f s) X ≡ true) → AllIn (map f ss) (replicate n X)
all_xs f [] zero l h = none_in
all_xs f [] (suc n) l h = absurd (omega arith)
all_xs f (s ∷ ss) zero l h = absurd (omega arith)
all_xs f (s ∷ ss) (suc n) l h = one_in (h s) (all_xs f ss n (omega arith) h)

all_kept : (f : Set4 → Set4) {ss : List Set4} {vs : BitList} → AllIn ss vs → ((s : Set4) (v : Bit4) → has s v ≡ true → has (f s) v ≡ true) → AllIn (map f ss) vs
all_kept f none_in k = none_in
all_kept f (one_in {s} {v} e h) k = one_in (k s v e) (all_kept f h k)

pub word_in : (signal : Signal) (g : Bool) {ts ss : List Set4} {us vs : BitList} → AllIn ts us → AllIn ss vs → length vs ≡ signal_length signal
    → AllIn (map (variable ts (surely_inside (one_bit (addresses signal)) g ts)) (all_words (word_length signal) (range_length (addresses signal)) ss)) (select_word signal g vs us)
word_in signal g {ts} {ss} {us} {vs} h k l =
    by_test (list_any is_unknown_set ts)
    (λ q. nothing (unknown us (some_unknown h q)) (λ s. rw q refl))
    (λ q. go q (address_place signal g us) refl)
  where
    sure : Bool
    sure = surely_inside (one_bit (addresses signal)) g ts

    words : List Set4
    words = all_words (word_length signal) (range_length (addresses signal)) ss

    long : length vs ≡ range_length (addresses signal) * word_length signal
    long = l ∙ words_are signal

    unknown : (us : BitList) → all_known us ≡ false → address_place signal g us ≡ None
    unknown us q = rw q refl

    nothing : address_place signal g us ≡ None → ((s : Set4) → has (variable ts sure s) X ≡ true) → AllIn (map (variable ts sure) words) (select_word signal g vs us)
    nothing e x =
        subst (AllIn (map (variable ts sure) words)) (sym (no_word signal g us vs e))
        (all_xs (variable ts sure) words (word_length signal) (words_long (word_length signal) (range_length (addresses signal)) ss (all_length k ∙ long)) x)

    go : list_any is_unknown_set ts ≡ false → (p : Option ℕ) → address_place signal g us ≡ p → AllIn (map (variable ts sure) words) (select_word signal g vs us)
    go q None e = nothing e (λ s. rw q (by_test sure (λ r. absurd (sure_place signal g h r e)) (λ r. rw r (union_left (only X) s X refl))))
    go q (Some n) e =
        subst (AllIn (map (variable ts sure) words)) (sym (some_word signal g us vs n e long))
        (all_kept (variable ts sure) (in_words (word_length signal) (range_length (addresses signal)) n k (address_less signal g us n e) long) (λ s v m. rw q (by_test sure (λ r. rw r m) (λ r. rw r (union_right (only X) s v m)))))
