-- Indices between two that are in range are in range.
use Rattle.std.proofs.Common.{◌≡◌, ℕ, zero, suc, ◌+◌, ◌-◌, ◌*◌, ◌^◌, ◌≤◌, ◌<◌, Bool, true, false, List, [], ◌∷◌, ◌&&◌, if◌then◌else◌, ◌⊎◌, inl, inr, refl, sym, subst, map, length, Option, Some, None, replicate, arith, ℤ, pos, negsuc, ◌+ℤ◌, ◌-ℤ◌, ◌≤ℤ◌, ◌<ℤ◌, nat_lt}
use Rattle.std.specs.Prelude.{is_some}
use Rattle.std.specs.List.{list_all}
use Rattle.std.proofs.lemmas.Int.{ints}
use Rattle.vs_four.specs.declared.Bit4.{Bit4}
use Rattle.vs_four.specs.declared.Bit4.TheVariants.{Zero, One, X, Z}
use Rattle.vs_four.specs.Logic.{BitList, all_known}
use Rattle.vs_four.specs.Lengths.{last_or}
use Rattle.vs_four.specs.Tables.{is_known, is_one}
use Rattle.vs_four.specs.Numbers.{digit, number, integer}
use Rattle.vs_four.specs.Selects.{Part, range_length, is_descending, below, at_place, places}
use Rattle.vs_design.proofs.Places.{first_place, places_from, places_are}
use Rattle.vs_design.specs.Sets.{Set4, has, is_known_set}
use Rattle.vs_design.specs.Lifted.{least_bits, greatest_bits, is_inside, surely_inside}
use Rattle.vs_design.specs.TreeLaws.{AllIn, none_in, one_in}
use Rattle.vs_design.proofs.Lists.{by_test, and_both}
use Rattle.vs_design.proofs.SetBits.{known_is}
use Rattle.vs_design.proofs.SetOps.{Each, and_intro, get_each}

-- ---- the integer of a list, bit by bit

power_more : (n : ℕ) → 2 ^ suc n ≡ 2 * 2 ^ n
power_more n = grind arith

integer_more : (g : Bool) (b c : Bit4) (bs : BitList) → integer g (b ∷ c ∷ bs) ≡ pos (digit b) +ℤ (integer g (c ∷ bs) +ℤ integer g (c ∷ bs))
integer_more g b c bs = go (g && is_one (last_or c bs)) (digit b) (number (c ∷ bs)) (2 ^ length (c ∷ bs)) (2 ^ length (b ∷ c ∷ bs)) (power_more (length (c ∷ bs)))
  where
    go : (t : Bool) (d n p q : ℕ) → q ≡ 2 * p → (if t then (pos (d + 2 * n) -ℤ pos q) else pos (d + 2 * n)) ≡ pos d +ℤ ((if t then (pos n -ℤ pos p) else pos n) +ℤ (if t then (pos n -ℤ pos p) else pos n))
    go true d n p q e = omega (arith, ints)
    go false d n p q e = omega (arith, ints)

double_order : (a b : ℕ) (c d : ℤ) → a ≤ b → c ≤ℤ d → (pos a +ℤ (c +ℤ c)) ≤ℤ (pos b +ℤ (d +ℤ d))
double_order a b c d h k = omega (arith, ints)

-- the least and the greatest digit of a known set
least_digit : (s : Set4) (v : Bit4) → has s v ≡ true → is_known v ≡ true → digit (if s.zero? then Zero else One) ≤ digit v
least_digit s Zero h k = rw h (omega arith)
least_digit s One h k = by_test s.zero? (λ e. rw e (omega arith)) (λ e. rw e (omega arith))
least_digit s X h k = cc
least_digit s Z h k = cc

greatest_digit : (s : Set4) (v : Bit4) → has s v ≡ true → is_known v ≡ true → digit v ≤ digit (if s.one? then One else Zero)
greatest_digit s One h k = rw h (omega arith)
greatest_digit s Zero h k = by_test s.one? (λ e. rw e (omega arith)) (λ e. rw e (omega arith))
greatest_digit s X h k = cc
greatest_digit s Z h k = cc

-- one bit, as a number with or without sign
one_least : (g : Bool) (s : Set4) (v : Bit4) → has s v ≡ true → is_known v ≡ true → integer g ((if g then (if s.one? then One else Zero) else (if s.zero? then Zero else One)) ∷ []) ≤ℤ integer g (v ∷ [])
one_least true s One h k = rw h (omega (arith, ints))
one_least true s Zero h k = by_test s.one? (λ e. rw e (omega (arith, ints))) (λ e. rw e (omega (arith, ints)))
one_least false s Zero h k = rw h (omega (arith, ints))
one_least false s One h k = by_test s.zero? (λ e. rw e (omega (arith, ints))) (λ e. rw e (omega (arith, ints)))
one_least g s X h k = cc
one_least g s Z h k = cc

one_greatest : (g : Bool) (s : Set4) (v : Bit4) → has s v ≡ true → is_known v ≡ true → integer g (v ∷ []) ≤ℤ integer g ((if g then (if s.zero? then Zero else One) else (if s.one? then One else Zero)) ∷ [])
one_greatest true s Zero h k = rw h (omega (arith, ints))
one_greatest true s One h k = by_test s.zero? (λ e. rw e (omega (arith, ints))) (λ e. rw e (omega (arith, ints)))
one_greatest false s One h k = rw h (omega (arith, ints))
one_greatest false s Zero h k = by_test s.one? (λ e. rw e (omega (arith, ints))) (λ e. rw e (omega (arith, ints)))
one_greatest g s X h k = cc
one_greatest g s Z h k = cc

pub least_is : (g : Bool) {ss : List Set4} {vs : BitList} → AllIn ss vs → list_all is_known_set ss ≡ true → integer g (least_bits g ss) ≤ℤ integer g vs
least_is g none_in k = omega (arith, ints)
least_is g (one_in {s} {v} e none_in) k = let p = and_both (is_known_set s) true k in one_least g s v e (known_is s v p.0 e)
least_is g (one_in {s} {v} e (one_in {s = t} {v = u} {ss} {vs} d h)) k =
    let p = and_both (is_known_set s) (is_known_set t && list_all is_known_set ss) k in
    let rest : integer g (least_bits g (t ∷ ss)) ≤ℤ integer g (u ∷ vs) = least_is g (one_in d h) p.1 in
    let head : digit (if s.zero? then Zero else One) ≤ digit v = least_digit s v e (known_is s v p.0 e) in
    rw (integer_more g v u vs) (rw (least_more g s t ss) (double_order (digit (if s.zero? then Zero else One)) (digit v) (integer g (least_bits g (t ∷ ss))) (integer g (u ∷ vs)) head rest))
  where
    least_more : (g : Bool) (s t : Set4) (ss : List Set4) → integer g (least_bits g (s ∷ t ∷ ss)) ≡ pos (digit (if s.zero? then Zero else One)) +ℤ (integer g (least_bits g (t ∷ ss)) +ℤ integer g (least_bits g (t ∷ ss)))
    least_more g s t [] = integer_more g (if s.zero? then Zero else One) (if g then (if t.one? then One else Zero) else (if t.zero? then Zero else One)) []
    least_more g s t (r ∷ ss) = integer_more g (if s.zero? then Zero else One) (if t.zero? then Zero else One) (least_bits g (r ∷ ss))

pub greatest_is : (g : Bool) {ss : List Set4} {vs : BitList} → AllIn ss vs → list_all is_known_set ss ≡ true → integer g vs ≤ℤ integer g (greatest_bits g ss)
greatest_is g none_in k = omega (arith, ints)
greatest_is g (one_in {s} {v} e none_in) k = let p = and_both (is_known_set s) true k in one_greatest g s v e (known_is s v p.0 e)
greatest_is g (one_in {s} {v} e (one_in {s = t} {v = u} {ss} {vs} d h)) k =
    let p = and_both (is_known_set s) (is_known_set t && list_all is_known_set ss) k in
    let rest : integer g (u ∷ vs) ≤ℤ integer g (greatest_bits g (t ∷ ss)) = greatest_is g (one_in d h) p.1 in
    let head : digit v ≤ digit (if s.one? then One else Zero) = greatest_digit s v e (known_is s v p.0 e) in
    rw (integer_more g v u vs) (rw (greatest_more g s t ss) (double_order (digit v) (digit (if s.one? then One else Zero)) (integer g (u ∷ vs)) (integer g (greatest_bits g (t ∷ ss))) head rest))
  where
    greatest_more : (g : Bool) (s t : Set4) (ss : List Set4) → integer g (greatest_bits g (s ∷ t ∷ ss)) ≡ pos (digit (if s.one? then One else Zero)) +ℤ (integer g (greatest_bits g (t ∷ ss)) +ℤ integer g (greatest_bits g (t ∷ ss)))
    greatest_more g s t [] = integer_more g (if s.one? then One else Zero) (if g then (if t.zero? then Zero else One) else (if t.one? then One else Zero)) []
    greatest_more g s t (r ∷ ss) = integer_more g (if s.one? then One else Zero) (if t.one? then One else Zero) (greatest_bits g (r ∷ ss))

-- ---- places in range

below_is : (n len : ℕ) → nat_lt n len ≡ true → n < len
below_is n len t = grind arith

in_range_is : (len : ℕ) (z : ℤ) → is_some (below len z) ≡ true → (pos 0 ≤ℤ z) × (z <ℤ pos len)
in_range_is len (negsuc n) h = cc
in_range_is len (pos n) h = by_test (nat_lt n len) (λ t. let l = below_is n len t in (omega (arith, ints), omega (arith, ints))) (λ t. absurd (go (nat_lt n len) t h))
  where
    go : (b : Bool) → b ≡ false → is_some (if b then Some n else None) ≡ true → ⊥
    go true p q = cc
    go false p q = cc

-- all places from z on are in range where the first and the last are
places_inside : (len n : ℕ) (z : ℤ) → list_all is_some (places_from len z (suc n)) ≡ true → (pos 0 ≤ℤ z) × ((z +ℤ pos n) <ℤ pos len)
places_inside len zero z h = let p = in_range_is len z (and_both (is_some (below len z)) true h).0 in (p.0, omega (arith, ints))
places_inside len (suc n) z h =
    let p = and_both (is_some (below len z)) (list_all is_some (places_from len (z +ℤ pos 1) (suc n))) h in
    let first = in_range_is len z p.0 in
    let rest = places_inside len n (z +ℤ pos 1) p.1 in
    (first.0, omega (arith, ints))

select_inside : (s : Set4) (vs : BitList) (n : ℕ) (z : ℤ) → Each s vs → pos 0 ≤ℤ z → ((z +ℤ pos n) ≤ℤ pos (length vs)) → Each s (map (at_place X vs) (places_from (length vs) z n))
select_inside s vs zero z h k l = refl
select_inside s vs (suc n) (negsuc m) h k l = absurd (omega (arith, ints))
select_inside s vs (suc n) (pos m) h k l =
    let b : m < length vs = omega (arith, ints) in
    and_intro _ _ (subst (λ (c : Bool). has s (at_place X vs (if c then Some m else None)) ≡ true) (sym (below_test m (length vs) b)) (get_each s vs m b h))
    (select_inside s vs n (pos m +ℤ pos 1) h (omega (arith, ints)) (omega (arith, ints)))
  where
    below_test : (m n : ℕ) → m < n → nat_lt m n ≡ true
    below_test m n h = grind arith

-- a part's first place goes up or down with its index
first_between : (p : Part) (a b c : ℤ) → a ≤ℤ b → b ≤ℤ c → ((first_place p a ≤ℤ first_place p b) × (first_place p b ≤ℤ first_place p c)) ⊎ ((first_place p c ≤ℤ first_place p b) × (first_place p b ≤ℤ first_place p a))
first_between p a b c h k = go (is_descending p.range) p.up (p.width - 1) p.range.right
  where
    place : Bool → Bool → ℕ → ℕ → ℤ → ℤ
    place d u w r x = if d then ((if u then x else (x -ℤ pos w)) -ℤ pos r) else (pos r -ℤ (if u then (x +ℤ pos w) else x))

    go : (d u : Bool) (w r : ℕ) → ((place d u w r a ≤ℤ place d u w r b) × (place d u w r b ≤ℤ place d u w r c)) ⊎ ((place d u w r c ≤ℤ place d u w r b) × (place d u w r b ≤ℤ place d u w r a))
    go true true w r = inl (omega (arith, ints), omega (arith, ints))
    go true false w r = inl (omega (arith, ints), omega (arith, ints))
    go false true w r = inr (omega (arith, ints), omega (arith, ints))
    go false false w r = inr (omega (arith, ints), omega (arith, ints))

-- a select whose index is surely in range takes bits of the vector alone
pub select_sure : (p : Part) (g : Bool) (s : Set4) (vs : BitList) {ts : List Set4} {us : BitList} → AllIn ts us → surely_inside p g ts ≡ true → all_known us ≡ true → range_length p.range ≡ length vs → Each s vs → Each s (map (at_place X vs) (places p g us))
select_sure p g s vs {ts} {us} h sure known l e =
    let q = and_both (list_all is_known_set ts && is_inside p g (least_bits g ts)) (is_inside p g (greatest_bits g ts)) sure in
    let r = and_both (list_all is_known_set ts) (is_inside p g (least_bits g ts)) q.0 in
    sure_places (go p.width refl (inside_known p g (least_bits g ts) (least_known g ts r.0) r.1) (inside_known p g (greatest_bits g ts) (greatest_known g ts r.0) q.1) (first_between p (integer g (least_bits g ts)) (integer g us) (integer g (greatest_bits g ts)) (least_is g h r.0) (greatest_is g h r.0)))
  where
    least_known : (g : Bool) (ts : List Set4) → list_all is_known_set ts ≡ true → all_known (least_bits g ts) ≡ true
    least_known g [] k = refl
    least_known true (s ∷ []) k = by_test s.one? (λ e. rw e refl) (λ e. rw e refl)
    least_known false (s ∷ []) k = by_test s.zero? (λ e. rw e refl) (λ e. rw e refl)
    least_known g (s ∷ t ∷ ss) k = and_intro _ _ (by_test s.zero? (λ e. rw e refl) (λ e. rw e refl)) (least_known g (t ∷ ss) (and_both (is_known_set s) (list_all is_known_set (t ∷ ss)) k).1)

    greatest_known : (g : Bool) (ts : List Set4) → list_all is_known_set ts ≡ true → all_known (greatest_bits g ts) ≡ true
    greatest_known g [] k = refl
    greatest_known true (s ∷ []) k = by_test s.zero? (λ e. rw e refl) (λ e. rw e refl)
    greatest_known false (s ∷ []) k = by_test s.one? (λ e. rw e refl) (λ e. rw e refl)
    greatest_known g (s ∷ t ∷ ss) k = and_intro _ _ (by_test s.one? (λ e. rw e refl) (λ e. rw e refl)) (greatest_known g (t ∷ ss) (and_both (is_known_set s) (list_all is_known_set (t ∷ ss)) k).1)

    inside_known : (p : Part) (g : Bool) (bits : BitList) → all_known bits ≡ true → is_inside p g bits ≡ true → list_all is_some (places_from (range_length p.range) (first_place p (integer g bits)) p.width) ≡ true
    inside_known p g bits k i =
        subst (λ (c : Bool). list_all is_some (if c then places_from (range_length p.range) (first_place p (integer g bits)) p.width else replicate p.width None) ≡ true) k
        (subst (λ (ps : List (Option ℕ)). list_all is_some ps ≡ true) (places_are p g bits) i)

    sure_places : Each s (map (at_place X vs) (places_from (range_length p.range) (first_place p (integer g us)) p.width)) → Each s (map (at_place X vs) (places p g us))
    sure_places h =
        subst (λ (ps : List (Option ℕ)). Each s (map (at_place X vs) ps)) (sym (places_are p g us))
        (subst (λ (c : Bool). Each s (map (at_place X vs) (if c then places_from (range_length p.range) (first_place p (integer g us)) p.width else replicate p.width None))) (sym known) h)

    go : (n : ℕ) → p.width ≡ n
        → list_all is_some (places_from (range_length p.range) (first_place p (integer g (least_bits g ts))) p.width) ≡ true
        → list_all is_some (places_from (range_length p.range) (first_place p (integer g (greatest_bits g ts))) p.width) ≡ true
        → ((first_place p (integer g (least_bits g ts)) ≤ℤ first_place p (integer g us)) × (first_place p (integer g us) ≤ℤ first_place p (integer g (greatest_bits g ts)))) ⊎ ((first_place p (integer g (greatest_bits g ts)) ≤ℤ first_place p (integer g us)) × (first_place p (integer g us) ≤ℤ first_place p (integer g (least_bits g ts))))
        → Each s (map (at_place X vs) (places_from (range_length p.range) (first_place p (integer g us)) p.width))
    go zero w a b c = rw w refl
    go (suc n) w a b c =
        let low = places_inside (range_length p.range) n (first_place p (integer g (least_bits g ts))) (subst (λ m. list_all is_some (places_from (range_length p.range) (first_place p (integer g (least_bits g ts))) m) ≡ true) w a) in
        let high = places_inside (range_length p.range) n (first_place p (integer g (greatest_bits g ts))) (subst (λ m. list_all is_some (places_from (range_length p.range) (first_place p (integer g (greatest_bits g ts))) m) ≡ true) w b) in
        let fit = between (first_place p (integer g (least_bits g ts))) (first_place p (integer g us)) (first_place p (integer g (greatest_bits g ts))) n (range_length p.range) low high c in
        subst (λ m. Each s (map (at_place X vs) (places_from (range_length p.range) (first_place p (integer g us)) m))) (sym w)
        (subst (λ m. Each s (map (at_place X vs) (places_from m (first_place p (integer g us)) (suc n)))) (sym l)
        (select_inside s vs (suc n) (first_place p (integer g us)) e fit.0 (subst (λ m. (first_place p (integer g us) +ℤ pos (suc n)) ≤ℤ pos m) l fit.1)))
      where
        between : (x y z : ℤ) (n m : ℕ) → (pos 0 ≤ℤ x) × ((x +ℤ pos n) <ℤ pos m) → (pos 0 ≤ℤ z) × ((z +ℤ pos n) <ℤ pos m) → ((x ≤ℤ y) × (y ≤ℤ z)) ⊎ ((z ≤ℤ y) × (y ≤ℤ x)) → (pos 0 ≤ℤ y) × ((y +ℤ pos (suc n)) ≤ℤ pos m)
        between x y z n m a b (inl c) = (omega (arith, ints), omega (arith, ints))
        between x y z n m a b (inr c) = (omega (arith, ints), omega (arith, ints))
