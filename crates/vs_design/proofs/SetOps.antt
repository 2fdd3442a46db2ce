-- Lifted arithmetic, shifts, selects and choices.
use Rattle.std.proofs.Common.{◌≡◌, ℕ, zero, suc, ◌<◌, Bool, true, false, List, [], ◌∷◌, ◌++◌, ◌||◌, ◌&&◌, if◌then◌else◌, refl, sym, ◌∙◌, subst, map, length, take, drop, replicate, get_or, Option, Some, None, arith, ◌==◌, ◌%◌, ◌/◌}
use Rattle.std.specs.List.{list_any, list_all}
use Rattle.std.proofs.lemmas.List.Folds.{list_all-append}
use Rattle.std.proofs.Math.ListN.{length-replicate}
use Rattle.vs_four.specs.declared.Bit4.{Bit4}
use Rattle.vs_four.specs.declared.Bit4.TheVariants.{Zero, One, X, Z}
use Rattle.vs_four.specs.Logic.{BitList, all_known, choose}
use Rattle.vs_four.specs.Tables.{is_known, of_bool, not_bit, merge_bit}
use Rattle.vs_four.specs.Shifts.{move_up, move_down}
use Rattle.vs_four.specs.Numbers.{bits_of, if_known}
use Rattle.vs_four.specs.Selects.{at_place}
use Rattle.vs_design.specs.Sets.{Set4, has, only, known_set, any_result, union, when, image2, is_unknown_set, is_known_set, all_of, arithmetic, variable, set_choose, set_shift_by, set_shift}
use Rattle.vs_design.specs.TreeLaws.{AllIn, none_in, one_in}
use Rattle.vs_design.proofs.Lists.{by_test, or_left, or_right, and_both}
use Rattle.vs_design.proofs.SetBits.{union_left, union_right, has_when, image2_has, all_length, all_replicate, all_move_up, all_move_down, some_unknown, each_known}
use Rattle.vs_design.proofs.Lengths.{length_move_up, length_move_down}

pub and_intro : (a b : Bool) → a ≡ true → b ≡ true → (a && b) ≡ true
and_intro true b h k = k
and_intro false b h k = h

-- each of the values is in one set
abbrev pub Each : Set4 → BitList → Type 0
Each s vs = list_all (has s) vs ≡ true

pub each_in : (s : Set4) (n : ℕ) (vs : BitList) → length vs ≡ n → Each s vs → AllIn (replicate n s) vs
each_in s zero [] h k = none_in
each_in s (suc n) [] h k = absurd (omega arith)
each_in s zero (v ∷ vs) h k = absurd (omega arith)
each_in s (suc n) (v ∷ vs) h k = let p = and_both (has s v) (list_all (has s) vs) k in one_in p.0 (each_in s n vs (omega arith) p.1)

pub each_append : (s : Set4) (us vs : BitList) → Each s us → Each s vs → Each s (us ++ vs)
each_append s us vs h k = list_all-append (has s) us vs ∙ and_intro _ _ h k

pub each_take : (s : Set4) (n : ℕ) (vs : BitList) → Each s vs → Each s (take n vs)
each_take s zero vs h = refl
each_take s (suc n) [] h = refl
each_take s (suc n) (v ∷ vs) h = let p = and_both (has s v) (list_all (has s) vs) h in and_intro _ _ p.0 (each_take s n vs p.1)

pub each_drop : (s : Set4) (n : ℕ) (vs : BitList) → Each s vs → Each s (drop n vs)
each_drop s zero vs h = h
each_drop s (suc n) [] h = refl
each_drop s (suc n) (v ∷ vs) h = let p = and_both (has s v) (list_all (has s) vs) h in each_drop s n vs p.1

pub each_replicate : (s : Set4) (n : ℕ) (v : Bit4) → has s v ≡ true → Each s (replicate n v)
each_replicate s zero v h = refl
each_replicate s (suc n) v h = and_intro _ _ h (each_replicate s n v h)

pub each_wider : (s t : Set4) (vs : BitList) → Each t vs → Each (union s t) vs
each_wider s t [] h = refl
each_wider s t (v ∷ vs) h = let p = and_both (has t v) (list_all (has t) vs) h in and_intro _ _ (union_right s t v p.0) (each_wider s t vs p.1)

pub each_of_all : {ss : List Set4} {vs : BitList} → AllIn ss vs → Each (all_of ss) vs
each_of_all none_in = refl
each_of_all (one_in {s} {v} {ss} {vs} e h) = and_intro _ _ (union_left s (all_of ss) v e) (each_wider s (all_of ss) vs (each_of_all h))

pub each_if_known : (s : Set4) (known : Bool) (n : ℕ) (vs : BitList) → has s X ≡ true → Each s vs → Each s (if_known known n vs)
each_if_known s true n vs h k = k
each_if_known s false n vs h k = each_replicate s n X h

-- ---- arithmetic

pub known_bit : (v : Bit4) → is_known v ≡ true → has known_set v ≡ true
known_bit Zero h = refl
known_bit One h = refl
known_bit X h = h
known_bit Z h = h

pub result_bit : (v : Bit4) → is_known v ≡ true → has any_result v ≡ true
result_bit Zero h = refl
result_bit One h = refl
result_bit X h = refl
result_bit Z h = h

pub known_bits : (vs : BitList) → all_known vs ≡ true → Each known_set vs
known_bits [] h = refl
known_bits (v ∷ vs) h = let p = and_both (is_known v) (all_known vs) h in and_intro _ _ (known_bit v p.0) (known_bits vs p.1)

pub result_bits : (vs : BitList) → all_known vs ≡ true → Each any_result vs
result_bits [] h = refl
result_bits (v ∷ vs) h = let p = and_both (is_known v) (all_known vs) h in and_intro _ _ (result_bit v p.0) (result_bits vs p.1)

pub of_bool_known : (b : Bool) → is_known (of_bool b) ≡ true
of_bool_known true = refl
of_bool_known false = refl

pub bits_of_known : (w n : ℕ) → all_known (bits_of w n) ≡ true
bits_of_known zero n = refl
bits_of_known (suc w) n = and_intro _ _ (of_bool_known (n % 2 == 1)) (bits_of_known w (n / 2))

known_is_false : (known : Bool) (k : Bool) → k ≡ known → k ≡ false → known ≡ false
known_is_false known k e f = sym e ∙ f

each_arithmetic : {ss : List Set4} {vs : BitList} → AllIn ss vs → (known : Bool) (n : ℕ) (a : BitList) → all_known vs ≡ known → all_known a ≡ true → Each (arithmetic ss) (if_known known n a)
each_arithmetic {ss} {vs} h known n a e k =
    by_test (list_any is_unknown_set ss)
    (λ q. rw q
    (let f : known ≡ false = sym e ∙ some_unknown h q in
    subst (λ c. Each (only X) (if_known c n a)) (sym f) (each_replicate (only X) n X refl)))
    (λ q. rw q
    (by_test (list_all is_known_set ss)
    (λ r. rw r
    (let f : known ≡ true = sym e ∙ each_known h r in
    subst (λ c. Each known_set (if_known c n a)) (sym f) (known_bits a k)))
    (λ r. rw r (each_if_known any_result known n a refl (result_bits a k)))))

length_known : (known : Bool) (n : ℕ) (a : BitList) → length a ≡ n → length (if_known known n a) ≡ n
length_known true n a h = h
length_known false n a h = length-replicate n X

pub arithmetic_in : {ss : List Set4} {vs : BitList} → AllIn ss vs → (known : Bool) (m n : ℕ) (a : BitList) → m ≡ n → all_known vs ≡ known → length a ≡ n → all_known a ≡ true → AllIn (replicate m (arithmetic ss)) (if_known known n a)
arithmetic_in {ss} h known m n a d e l k = subst (λ c. AllIn (replicate c (arithmetic ss)) (if_known known n a)) (sym d) (each_in (arithmetic ss) n (if_known known n a) (length_known known n a l) (each_arithmetic h known n a e k))

-- a comparison's one bit, and its inverse
pub arithmetic_bit : {ss : List Set4} {vs : BitList} → AllIn ss vs → (known : Bool) (v : Bit4) → all_known vs ≡ known → is_known v ≡ true → has (arithmetic ss) (if known then v else X) ≡ true
arithmetic_bit {ss} {vs} h known v e k = go known (each_arithmetic h known 1 (v ∷ []) e (and_intro _ _ k refl))
  where
    go : (c : Bool) → Each (arithmetic ss) (if_known c 1 (v ∷ [])) → has (arithmetic ss) (if c then v else X) ≡ true
    go true q = (and_both (has (arithmetic ss) v) true q).0
    go false q = (and_both (has (arithmetic ss) X) true q).0

not_known : (v : Bit4) → is_known v ≡ true → is_known (not_bit v) ≡ true
not_known Zero h = refl
not_known One h = refl
not_known X h = h
not_known Z h = h

pub arithmetic_not : {ss : List Set4} {vs : BitList} → AllIn ss vs → (known : Bool) (v : Bit4) → all_known vs ≡ known → is_known v ≡ true → has (arithmetic ss) (not_bit (if known then v else X)) ≡ true
arithmetic_not {ss} {vs} h known v e k = subst (λ x. has (arithmetic ss) x ≡ true) (go known) (arithmetic_bit h known (not_bit v) e (not_known v k))
  where
    go : (c : Bool) → (if c then not_bit v else X) ≡ not_bit (if c then v else X)
    go true = refl
    go false = refl

-- ---- shifts

pub shift_by_in : (known left : Bool) (s : Set4) (v : Bit4) (n : ℕ) {ss : List Set4} {vs : BitList} → has s v ≡ true → AllIn ss vs → AllIn (set_shift_by known left s n ss) (if_known known (length vs) (if left then move_up v n vs else move_down v n vs))
shift_by_in true true s v n k h = all_move_up s v n k h
shift_by_in true false s v n k h = all_move_down s v n k h
shift_by_in false left s v n {ss} {vs} k h = subst (λ m. AllIn (replicate (length ss) (only X)) (replicate m X)) (all_length h) (all_replicate (length ss) (only X) X refl)

-- what isn't surely known is x, or in the union
each_variable : {ts : List Set4} {us : BitList} → AllIn ts us → (sure : Bool) (s : Set4) (n : ℕ) (a : BitList) → (sure ≡ true → all_known us ≡ true) → (all_known us ≡ true → (sure ≡ true → Each s a) × Each (union (only X) s) a) → Each (variable ts sure s) (if_known (all_known us) n a)
each_variable {ts} {us} h sure s n a f g =
    by_test (list_any is_unknown_set ts)
    (λ q. rw q (rw (some_unknown h q) (each_replicate (only X) n X refl)))
    (λ q. rw q
    (by_test sure
    (λ r. rw r (rw (f r) ((g (f r)).0 r)))
    (λ r. rw r
    (by_test (all_known us)
    (λ t. rw t (g t).1)
    (λ t. rw t (each_replicate (union (only X) s) n X refl))))))

each_moved : (t : Set4) (left : Bool) (v : Bit4) (n : ℕ) (vs : BitList) → has t v ≡ true → Each t vs → Each t (if left then move_up v n vs else move_down v n vs)
each_moved t true v n vs h k = each_take t (length vs) (replicate n v ++ vs) (each_append t (replicate n v) vs (each_replicate t n v h) k)
each_moved t false v n vs h k = each_take t (length vs) (drop n vs ++ replicate (length vs) v) (each_append t (drop n vs) (replicate (length vs) v) (each_drop t n vs k) (each_replicate t (length vs) v h))

length_moved : (left : Bool) (v : Bit4) (n : ℕ) (vs : BitList) → length (if left then move_up v n vs else move_down v n vs) ≡ length vs
length_moved true v n vs = length_move_up v n vs
length_moved false v n vs = length_move_down v n vs

pub shift_in : {ts ss : List Set4} {us vs : BitList} → AllIn ts us → AllIn ss vs → (left : Bool) (s : Set4) (v : Bit4) (n : ℕ) → has s v ≡ true → AllIn (set_shift s ts ss) (if_known (all_known us) (length vs) (if left then move_up v n vs else move_down v n vs))
shift_in {ts} {ss} {us} {vs} ht hs left s v n k =
    let moved = if left then move_up v n vs else move_down v n vs in
    let both : Each (union s (all_of ss)) moved = each_moved (union s (all_of ss)) left v n vs (union_left s (all_of ss) v k) (each_wider s (all_of ss) vs (each_of_all hs)) in
    let each : Each (variable ts (list_all is_known_set ts) (union s (all_of ss))) (if_known (all_known us) (length vs) moved) =
    each_variable ht (list_all is_known_set ts) (union s (all_of ss)) (length vs) moved (λ q. each_known ht q) (λ q. ((λ r. both), each_wider (only X) (union s (all_of ss)) moved both)) in
    each_in (variable ts (list_all is_known_set ts) (union s (all_of ss))) (length ss) (if_known (all_known us) (length vs) moved)
    (length_known (all_known us) (length vs) moved (length_moved left v n vs) ∙ sym (all_length hs)) each

-- ---- `?:`

abbrev choose_set : Set4 → Set4 → Set4 → Set4
choose_set c s t = union (when c.one? s) (union (when c.zero? t) (when (c.x? || c.z?) (image2 merge_bit s t)))

pub choose_in : (c : Set4) (v : Bit4) {ps qs : List Set4} {us ws : BitList} → has c v ≡ true → AllIn ps us → AllIn qs ws → length us ≡ length ws → AllIn (set_choose c ps qs) (choose v us ws)
choose_in c Zero k none_in none_in l = none_in
choose_in c One k none_in none_in l = none_in
choose_in c X k none_in none_in l = none_in
choose_in c Z k none_in none_in l = none_in
choose_in c v k none_in (one_in d j) l = absurd (omega arith)
choose_in c v k (one_in e h) none_in l = absurd (omega arith)
choose_in c Zero k (one_in {s} {v = u} e h) (one_in {s = t} {v = w} d j) l = one_in (union_right (when c.one? s) _ w (union_left (when c.zero? t) _ w (has_when c.zero? t w k d))) (choose_in c Zero k h j (omega arith))
choose_in c One k (one_in {s} {v = u} e h) (one_in {s = t} {v = w} d j) l = one_in (union_left (when c.one? s) _ u (has_when c.one? s u k e)) (choose_in c One k h j (omega arith))
choose_in c X k (one_in {s} {v = u} e h) (one_in {s = t} {v = w} d j) l =
    one_in (union_right (when c.one? s) _ (merge_bit u w) (union_right (when c.zero? t) _ (merge_bit u w) (has_when (c.x? || c.z?) (image2 merge_bit s t) (merge_bit u w) (or_left c.x? c.z? k) (image2_has merge_bit s t u w e d)))) (choose_in c X k h j (omega arith))
choose_in c Z k (one_in {s} {v = u} e h) (one_in {s = t} {v = w} d j) l =
    one_in (union_right (when c.one? s) _ (merge_bit u w) (union_right (when c.zero? t) _ (merge_bit u w) (has_when (c.x? || c.z?) (image2 merge_bit s t) (merge_bit u w) (or_right c.x? c.z? k) (image2_has merge_bit s t u w e d)))) (choose_in c Z k h j (omega arith))

-- ---- selects

all_get : (n : ℕ) {ss : List Set4} {vs : BitList} → AllIn ss vs → has (get_or ss n (only X)) (get_or vs n X) ≡ true
all_get n none_in = refl
all_get zero (one_in e h) = e
all_get (suc n) (one_in e h) = all_get n h

place_in : (p : Option ℕ) {ss : List Set4} {vs : BitList} → AllIn ss vs → has (at_place (only X) ss p) (at_place X vs p) ≡ true
place_in None h = refl
place_in (Some n) h = all_get n h

pub places_in : (ps : List (Option ℕ)) {ss : List Set4} {vs : BitList} → AllIn ss vs → AllIn (map (at_place (only X) ss) ps) (map (at_place X vs) ps)
places_in [] h = none_in
places_in (p ∷ ps) h = one_in (place_in p h) (places_in ps h)

pub get_or_x : (s : Set4) (vs : BitList) (n : ℕ) → Each s vs → has (union (only X) s) (get_or vs n X) ≡ true
get_or_x s [] n h = union_left (only X) s X refl
get_or_x s (v ∷ vs) zero h = union_right (only X) s v (and_both (has s v) (list_all (has s) vs) h).0
get_or_x s (v ∷ vs) (suc n) h = get_or_x s vs n (and_both (has s v) (list_all (has s) vs) h).1

place_or_x : (s : Set4) (vs : BitList) (p : Option ℕ) → Each s vs → has (union (only X) s) (at_place X vs p) ≡ true
place_or_x s vs None h = union_left (only X) s X refl
place_or_x s vs (Some n) h = get_or_x s vs n h

pub places_or_x : (s : Set4) (vs : BitList) (ps : List (Option ℕ)) → Each s vs → Each (union (only X) s) (map (at_place X vs) ps)
places_or_x s vs [] h = refl
places_or_x s vs (p ∷ ps) h = and_intro _ _ (place_or_x s vs p h) (places_or_x s vs ps h)

pub get_each : (s : Set4) (vs : BitList) (n : ℕ) → n < length vs → Each s vs → has s (get_or vs n X) ≡ true
get_each s [] n l h = absurd (omega arith)
get_each s (v ∷ vs) zero l h = (and_both (has s v) (list_all (has s) vs) h).0
get_each s (v ∷ vs) (suc n) l h = get_each s vs n (omega arith) (and_both (has s v) (list_all (has s) vs) h).1
