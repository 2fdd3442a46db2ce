-- A value is in its lifted sets.
use Rattle.std.proofs.Common.{◌≡◌, ℕ, zero, suc, ◌+◌, ◌-◌, ◌*◌, ◌^◌, ◌≤◌, Bool, true, false, List, [], ◌∷◌, ◌++◌, ◌&&◌, if◌then◌else◌, refl, sym, ◌∙◌, subst, map, length, replicate, get_or, Option, Some, None, arith, add-zero, ◌==◌}
use Rattle.std.specs.Prelude.{int_lt}
use Rattle.std.specs.List.{list_any, list_all}
use Rattle.std.proofs.lemmas.List.Folds.{list_all-append}
use Rattle.std.proofs.lemmas.List.{length-map}
use Rattle.vs_four.specs.declared.Bit4.{Bit4}
use Rattle.vs_four.specs.declared.Bit4.TheVariants.{Zero, One, X, Z}
use Rattle.vs_net.specs.Network.{State}
use Rattle.vs_four.specs.Logic.{BitList, all_known, map2, reduce_and, reduce_or, reduce_xor, equal, identical, truth}
use Rattle.vs_four.specs.Tables.{is_known, of_bool, not_bit, and_bit, or_bit, xor_bit, xnor_bit, same_bit}
use Rattle.vs_four.specs.Lengths.{last_or}
use Rattle.vs_four.specs.Numbers.{bits_of, number, integer, if_known}
use Rattle.vs_four.specs.Shifts.{distance, move_up, move_down}
use Rattle.vs_four.specs.Selects.{Part, range_length, at_place, places, select}
use Rattle.vs_design.specs.Expressions.{Signal, signal_length, Source, OfSignal, OfConstant, UnaryOp, Plus, Minus, BitNot, LogicalNot, ReduceAnd, ReduceNand, ReduceOr, ReduceNor, ReduceXor, ReduceXnor, Signed, Unsigned, BinaryOp, Add, Subtract, Multiply, Divide, Remainder, BitAnd, BitOr, BitXor, BitXnor, Less, LessEqual, Greater, GreaterEqual, Equal, NotEqual, CaseEqual, CaseNotEqual, LogicalAnd, LogicalOr, ShiftLeft, ShiftRight, ShiftLeftArith, ShiftRightArith, Power, Expression, Binary, way, width, sign, is_constant, word_length}
use Rattle.vs_design.specs.Values.{count_from, bits_of_signal, read, source_value, word_places, select_word, apply_unary, apply_binary, left_width, right_width, left_sign, right_sign, value, own_value, constant_value, word_part_places}
use Rattle.vs_design.specs.Footprints.{contains, source_bits, addressed_bits, somes, word_part_bits}
use Rattle.vs_design.specs.Bodies.{bits_at}
use Rattle.vs_design.specs.Sets.{Set4, has, only, any_value, union, image, image2, is_known_set, is_unknown_set, all_of, set_and, set_or, set_xor, arithmetic, set_match, variable}
use Rattle.vs_design.specs.Lifted.{Family, extend_sets, source_sets, surely_inside, set_select, set_word, lift_unary, lift_binary, lift_shift, fill_set, is_left, lift_quotient, lift_operator, lift_of, Lift, FromSets, Moved, Divided, lifted}
use Rattle.vs_design.specs.Fits.{source_length}
use Rattle.vs_design.specs.TreeLaws.{AllIn, none_in, one_in, InSets}
use Rattle.vs_design.proofs.Lists.{by_test, or_right, and_both, contains-left, contains-right, contains_head}
use Rattle.vs_design.proofs.ReadValue.{value_reads, constant_agree}
use Rattle.vs_design.proofs.Writes.{constant_index}
use Rattle.vs_design.proofs.Lengths.{length_value, length_places, length_bits_of, length_signal}
use Rattle.vs_design.proofs.SetBits.{image_has, image2_has, all_length, all_map, all_map2, all_fold, all_append, all_last, all_only, all_extend, each_known, some_unknown}
use Rattle.vs_design.proofs.SetOps.{Each, each_in, each_of_all, bits_of_known, of_bool_known, arithmetic_in, arithmetic_bit, arithmetic_not, shift_by_in, shift_in, places_in, places_or_x}
use Rattle.vs_design.proofs.Indices.{select_sure}
use Rattle.vs_design.proofs.Words.{addressed_constant, addressed_variable}
use Rattle.vs_design.proofs.WordSets.{word_in}
use Rattle.vs_design.proofs.WordParts.{twice, length_select_word, part_constant, part_variable}

pub sets_left : (xs ys : List ℕ) (sets : Family) (s : State) → InSets (xs ++ ys) sets s → InSets xs sets s
sets_left xs ys sets s h b k = h b (contains-left xs ys b k)

pub sets_right : (xs ys : List ℕ) (sets : Family) (s : State) → InSets (xs ++ ys) sets s → InSets ys sets s
sets_right xs ys sets s h b k = h b (contains-right xs ys b k)

pub read_in : (bs : List ℕ) (sets : Family) (s : State) → InSets bs sets s → AllIn (map sets bs) (map s bs)
read_in [] sets s h = none_in
read_in (b ∷ bs) sets s h = one_in (h b (contains_head b bs)) (read_in bs sets s (λ c k. h c (or_right (c == b) (contains bs c) k)))

pub and_in : {ss : List Set4} {vs : BitList} → AllIn ss vs → has (set_and ss) (reduce_and vs) ≡ true
and_in h = all_fold and_bit (only One) One refl h

pub truth_in : {ss : List Set4} {vs : BitList} → AllIn ss vs → has (set_or ss) (truth vs) ≡ true
truth_in h = all_fold or_bit (only Zero) Zero refl h

pub xor_in : {ss : List Set4} {vs : BitList} → AllIn ss vs → has (set_xor ss) (reduce_xor vs) ≡ true
xor_in h = all_fold xor_bit (only Zero) Zero refl h

pub match_in : (f : Bit4 → Bit4 → Bit4) {ss ts : List Set4} {us vs : BitList} → AllIn ss us → AllIn ts vs → has (set_match f ss ts) (reduce_and (map2 f us vs)) ≡ true
match_in f h k = and_in (all_map2 f h k)

-- one bit, and its inverse
single_in : (s : Set4) (v : Bit4) → has s v ≡ true → AllIn (s ∷ []) (v ∷ [])
single_in s v h = one_in h none_in

not_in : (s : Set4) (v : Bit4) → has s v ≡ true → AllIn (image not_bit s ∷ []) (not_bit v ∷ [])
not_in s v h = one_in (image_has not_bit s v h) none_in

known_append : (a b : BitList) → all_known (a ++ b) ≡ (all_known a && all_known b)
known_append a b = list_all-append is_known a b

pub unary_in : (op : UnaryOp) {ss : List Set4} {vs : BitList} → AllIn ss vs → AllIn (lift_unary op ss) (apply_unary op vs)
unary_in Plus h = h
unary_in Minus {ss} {vs} h = arithmetic_in h (all_known vs) (length ss) (length vs) (bits_of (length vs) (2 ^ length vs - number vs)) (all_length h) refl (length_bits_of (length vs) (2 ^ length vs - number vs)) (bits_of_known (length vs) (2 ^ length vs - number vs))
unary_in BitNot h = all_map not_bit h
unary_in LogicalNot {ss} {vs} h = not_in (set_or ss) (truth vs) (truth_in h)
unary_in ReduceAnd {ss} {vs} h = single_in (set_and ss) (reduce_and vs) (and_in h)
unary_in ReduceNand {ss} {vs} h = not_in (set_and ss) (reduce_and vs) (and_in h)
unary_in ReduceOr {ss} {vs} h = single_in (set_or ss) (reduce_or vs) (truth_in h)
unary_in ReduceNor {ss} {vs} h = not_in (set_or ss) (reduce_or vs) (truth_in h)
unary_in ReduceXor {ss} {vs} h = single_in (set_xor ss) (reduce_xor vs) (xor_in h)
unary_in ReduceXnor {ss} {vs} h = not_in (set_xor ss) (reduce_xor vs) (xor_in h)
unary_in Signed h = h
unary_in Unsigned h = h

sum_in : {ss ts : List Set4} {us vs : BitList} → AllIn ss us → AllIn ts vs → (n : ℕ) → AllIn (replicate (length ss) (arithmetic (ss ++ ts))) (if_known (all_known us && all_known vs) (length us) (bits_of (length us) n))
sum_in {ss} {ts} {us} {vs} h k n = arithmetic_in (all_append h k) (all_known us && all_known vs) (length ss) (length us) (bits_of (length us) n) (all_length h) (known_append us vs) (length_bits_of (length us) n) (bits_of_known (length us) n)

swap_known : (a b : Bool) → (a && b) ≡ (b && a)
swap_known true true = refl
swap_known true false = refl
swap_known false true = refl
swap_known false false = refl

-- operators whose sets come from their operands' sets
binary_in : (op : BinaryOp) (g j : Bool) {ss ts : List Set4} {us vs : BitList} → lift_of op ≡ FromSets → AllIn ss us → AllIn ts vs → AllIn (lift_binary op ss ts) (apply_binary op g j us vs)
binary_in Add g j {us} {vs} o h k = sum_in h k (number us + number vs)
binary_in Subtract g j {us} {vs} o h k = sum_in h k ((number us + 2 ^ length us) - number vs)
binary_in Multiply g j {us} {vs} o h k = sum_in h k (number us * number vs)
binary_in BitAnd g j o h k = all_map2 and_bit h k
binary_in BitOr g j o h k = all_map2 or_bit h k
binary_in BitXor g j o h k = all_map2 xor_bit h k
binary_in BitXnor g j o h k = all_map2 xnor_bit h k
binary_in Less g j {ss} {ts} {us} {vs} o h k = one_in (arithmetic_bit (all_append h k) (all_known us && all_known vs) (of_bool (int_lt (integer g us) (integer g vs))) (known_append us vs) (of_bool_known (int_lt (integer g us) (integer g vs)))) none_in
binary_in GreaterEqual g j {ss} {ts} {us} {vs} o h k = one_in (arithmetic_not (all_append h k) (all_known us && all_known vs) (of_bool (int_lt (integer g us) (integer g vs))) (known_append us vs) (of_bool_known (int_lt (integer g us) (integer g vs)))) none_in
binary_in Greater g j {ss} {ts} {us} {vs} o h k = one_in (arithmetic_bit (all_append h k) (all_known vs && all_known us) (of_bool (int_lt (integer g vs) (integer g us))) (known_append us vs ∙ swap_known (all_known us) (all_known vs)) (of_bool_known (int_lt (integer g vs) (integer g us)))) none_in
binary_in LessEqual g j {ss} {ts} {us} {vs} o h k = one_in (arithmetic_not (all_append h k) (all_known vs && all_known us) (of_bool (int_lt (integer g vs) (integer g us))) (known_append us vs ∙ swap_known (all_known us) (all_known vs)) (of_bool_known (int_lt (integer g vs) (integer g us)))) none_in
binary_in Equal g j {ss} {ts} {us} {vs} o h k = single_in (set_match xnor_bit ss ts) (equal us vs) (match_in xnor_bit h k)
binary_in NotEqual g j {ss} {ts} {us} {vs} o h k = not_in (set_match xnor_bit ss ts) (equal us vs) (match_in xnor_bit h k)
binary_in CaseEqual g j {ss} {ts} {us} {vs} o h k = single_in (set_match same_bit ss ts) (identical us vs) (match_in same_bit h k)
binary_in CaseNotEqual g j {ss} {ts} {us} {vs} o h k = not_in (set_match same_bit ss ts) (identical us vs) (match_in same_bit h k)
binary_in LogicalAnd g j {ss} {ts} {us} {vs} o h k = single_in (image2 and_bit (set_or ss) (set_or ts)) (and_bit (truth us) (truth vs)) (image2_has and_bit (set_or ss) (set_or ts) (truth us) (truth vs) (truth_in h) (truth_in k))
binary_in LogicalOr g j {ss} {ts} {us} {vs} o h k = single_in (image2 or_bit (set_or ss) (set_or ts)) (or_bit (truth us) (truth vs)) (image2_has or_bit (set_or ss) (set_or ts) (truth us) (truth vs) (truth_in h) (truth_in k))
binary_in Divide g j o h k = cc
binary_in Remainder g j o h k = cc
binary_in Power g j o h k = cc
binary_in ShiftLeft g j o h k = cc
binary_in ShiftRight g j o h k = cc
binary_in ShiftLeftArith g j o h k = cc
binary_in ShiftRightArith g j o h k = cc

-- shifts: what they bring in is in its set
shift_value_in : (op : BinaryOp) (g left : Bool) (v : Bit4) (b : Expression) (us : BitList) {ts ss : List Set4} {vs : BitList} → AllIn ts us → AllIn ss vs → has (fill_set op g ss) v ≡ true → is_left op ≡ left → (is_constant b ≡ true → us ≡ constant_value b)
    → AllIn (lift_shift op g b ts ss) (if_known (all_known us) (length vs) (if left then move_up v (distance (length vs) us) vs else move_down v (distance (length vs) us) vs))
shift_value_in op g left v b us {ts} {ss} {vs} h k f l c =
    by_test (is_constant b)
    (λ e. rw e (rw (l, ← c e)
    (subst (λ m. AllIn (Rattle.vs_design.specs.Sets.set_shift_by (all_known us) left (fill_set op g ss) (distance m us) ss) (if_known (all_known us) (length vs) (if left then move_up v (distance (length vs) us) vs else move_down v (distance (length vs) us) vs))) (sym (all_length k))
    (shift_by_in (all_known us) left (fill_set op g ss) v (distance (length vs) us) f k))))
    (λ e. rw e (shift_in h k left (fill_set op g ss) v (distance (length vs) us) f))

shifted_in : (op : BinaryOp) (g j : Bool) (b : Expression) {ts ss : List Set4} {us vs : BitList} → lift_of op ≡ Moved → AllIn ts us → AllIn ss vs → (is_constant b ≡ true → us ≡ constant_value b) → AllIn (lift_shift op g b ts ss) (apply_binary op g j vs us)
shifted_in ShiftLeft g j b {us} o h k c = shift_value_in ShiftLeft g true Zero b us h k refl refl c
shifted_in ShiftLeftArith g j b {us} o h k c = shift_value_in ShiftLeftArith g true Zero b us h k refl refl c
shifted_in ShiftRight g j b {us} o h k c = shift_value_in ShiftRight g false Zero b us h k refl refl c
shifted_in ShiftRightArith true j b {us} {vs} o h k c = shift_value_in ShiftRightArith true false (last_or Zero vs) b us h k (all_last (only Zero) Zero refl k) refl c
shifted_in ShiftRightArith false j b {us} o h k c = shift_value_in ShiftRightArith false false Zero b us h k refl refl c
shifted_in Add g j b o h k c = cc
shifted_in Subtract g j b o h k c = cc
shifted_in Multiply g j b o h k c = cc
shifted_in Divide g j b o h k c = cc
shifted_in Remainder g j b o h k c = cc
shifted_in Power g j b o h k c = cc
shifted_in BitAnd g j b o h k c = cc
shifted_in BitOr g j b o h k c = cc
shifted_in BitXor g j b o h k c = cc
shifted_in BitXnor g j b o h k c = cc
shifted_in Less g j b o h k c = cc
shifted_in LessEqual g j b o h k c = cc
shifted_in Greater g j b o h k c = cc
shifted_in GreaterEqual g j b o h k c = cc
shifted_in Equal g j b o h k c = cc
shifted_in NotEqual g j b o h k c = cc
shifted_in CaseEqual g j b o h k c = cc
shifted_in CaseNotEqual g j b o h k c = cc
shifted_in LogicalAnd g j b o h k c = cc
shifted_in LogicalOr g j b o h k c = cc

source_in : (source : Source) (part : Part) (index : Expression) (sets : Family) (s : State) → is_constant index ≡ false → InSets (source_bits source part index) sets s → AllIn (source_sets sets source) (source_value s source)
source_in (OfConstant bits) part index sets s e h = all_only bits
source_in (OfSignal signal) part index sets s e h =
    read_in (bits_of_signal signal) sets s (subst (λ (c : Bool). InSets (if c then somes (bits_at signal (places part (sign index) (constant_value index))) else bits_of_signal signal) sets s) e h)

length_source_value : (s : State) (source : Source) → length (source_value s source) ≡ source_length source
length_source_value s (OfSignal signal) = length_signal s signal
length_source_value s (OfConstant bits) = refl

-- a select by an index that varies
variable_in : (part : Part) (g : Bool) {ts ss : List Set4} {us vs : BitList} → AllIn ts us → AllIn ss vs → range_length part.range ≡ length vs → AllIn (replicate part.width (variable ts (surely_inside part g ts) (all_of ss))) (select part g vs us)
variable_in part g {ts} {ss} {us} {vs} h k l =
    each_in (variable ts (surely_inside part g ts) (all_of ss)) part.width (select part g vs us) (length-map (places part g us) (at_place X vs) ∙ length_places part g us)
    (by_test (list_any is_unknown_set ts)
    (λ q. rw q (rw (some_unknown h q) (unknown_places part.width vs)))
    (λ q. rw q
    (by_test (surely_inside part g ts)
    (λ r. rw r (select_sure part g (all_of ss) vs h r (sure_known ts us h r) l (each_of_all k)))
    (λ r. rw r (places_or_x (all_of ss) vs (places part g us) (each_of_all k))))))
  where
    unknown_places : (n : ℕ) (vs : BitList) → Each (only X) (map (at_place X vs) (replicate n None))
    unknown_places zero vs = refl
    unknown_places (suc n) vs = unknown_places n vs

    sure_known : (ts : List Set4) (us : BitList) → AllIn ts us → surely_inside part g ts ≡ true → all_known us ≡ true
    sure_known ts us h r = each_known h (and_both (list_all is_known_set ts) (Rattle.vs_design.specs.Lifted.is_inside part g (Rattle.vs_design.specs.Lifted.least_bits g ts)) (and_both (list_all is_known_set ts && Rattle.vs_design.specs.Lifted.is_inside part g (Rattle.vs_design.specs.Lifted.least_bits g ts)) (Rattle.vs_design.specs.Lifted.is_inside part g (Rattle.vs_design.specs.Lifted.greatest_bits g ts)) r).0).0

-- the bits that a constant select takes are in their sets, whatever the others hold
constant_in : (sets : Family) (s : State) (signal : Signal) (ps : List (Option ℕ)) → InSets (somes (bits_at signal ps)) sets s → AllIn (map (at_place (only X) (map sets (bits_of_signal signal))) ps) (map (at_place X (map s (bits_of_signal signal))) ps)
constant_in sets s signal [] h = none_in
constant_in sets s signal (None ∷ ps) h = one_in refl (constant_in sets s signal ps h)
constant_in sets s signal (Some n ∷ ps) h =
    one_in (nth_in sets s signal.first n (signal_length signal) (signal.first + n) refl (h (signal.first + n) (contains_head (signal.first + n) (somes (bits_at signal ps)))))
    (constant_in sets s signal ps (λ b c. h b (or_right (b == (signal.first + n)) (contains (somes (bits_at signal ps)) b) c)))
  where
    nth_in : (sets : Family) (s : State) (f n len k : ℕ) → k ≡ f + n → has (sets k) (s k) ≡ true → has (get_or (map sets (count_from f len)) n (only X)) (get_or (map s (count_from f len)) n X) ≡ true
    nth_in sets s f n zero k e h = refl
    nth_in sets s f zero (suc len) k e h = subst (λ m. has (sets m) (s m) ≡ true) (e ∙ add-zero f) h
    nth_in sets s f (suc n) (suc len) k e h = nth_in sets s (suc f) n len k (omega arith) h

constant_source : (source : Source) (part : Part) (index : Expression) (sets : Family) (s : State) → is_constant index ≡ true → InSets (source_bits source part index) sets s
    → AllIn (map (at_place (only X) (source_sets sets source)) (places part (sign index) (constant_value index))) (map (at_place X (source_value s source)) (places part (sign index) (constant_value index)))
constant_source (OfConstant bits) part index sets s e h = places_in (places part (sign index) (constant_value index)) (all_only bits)
constant_source (OfSignal signal) part index sets s e h =
    constant_in sets s signal (places part (sign index) (constant_value index)) (subst (λ (c : Bool). InSets (if c then somes (bits_at signal (places part (sign index) (constant_value index))) else bits_of_signal signal) sets s) e h)

pub select_in : (source : Source) (part : Part) (index : Expression) (sets : Family) (s : State) {ts : List Set4} (us : BitList) → AllIn ts us → (is_constant index ≡ true → us ≡ constant_value index) → range_length part.range ≡ source_length source → InSets (source_bits source part index) sets s
    → AllIn (set_select part index ts (source_sets sets source)) (select part (sign index) (source_value s source) us)
select_in source part index sets s {ts} us h c l k =
    by_test (is_constant index)
    (λ e. rw e (rw (c e) (constant_source source part index sets s e k)))
    (λ e. rw e (variable_in part (sign index) h (source_in source part index sets s e k) (l ∙ sym (length_source_value s source))))

-- and so is a word
pub word_value_in : (signal : Signal) (index : Expression) (sets : Family) (s : State) {ts : List Set4} (us : BitList) → AllIn ts us → (is_constant index ≡ true → us ≡ constant_value index) → InSets (addressed_bits signal index) sets s
    → AllIn (set_word signal index ts (map sets (bits_of_signal signal))) (select_word signal (sign index) (read s (bits_of_signal signal)) us)
word_value_in signal index sets s {ts} us h c k =
    by_test (is_constant index)
    (λ e. rw e (rw (c e) (constant_in sets s signal (word_places signal (sign index) (constant_value index)) (subst (λ xs. InSets xs sets s) (addressed_constant signal index e) k))))
    (λ e. rw e (word_in signal (sign index) h (read_in (bits_of_signal signal) sets s (subst (λ xs. InSets xs sets s) (addressed_variable signal index e) k)) (length_signal s signal)))

-- a select of what is in its sets
part_in : (part : Part) (index : Expression) {ts ss : List Set4} (us : BitList) {vs : BitList} → AllIn ts us → AllIn ss vs → (is_constant index ≡ true → us ≡ constant_value index) → range_length part.range ≡ length vs
    → AllIn (set_select part index ts ss) (select part (sign index) vs us)
part_in part index us h k c l =
    by_test (is_constant index)
    (λ e. rw e (rw (c e) (places_in (places part (sign index) (constant_value index)) k)))
    (λ e. rw e (variable_in part (sign index) h k l))

-- and so is a part of a word
pub word_part_in : (signal : Signal) (address : Expression) (part : Part) (index : Expression) (sets : Family) (s : State) {ts rs : List Set4} (us vs : BitList) → AllIn ts us → AllIn rs vs
    → (is_constant address ≡ true → us ≡ constant_value address) → (is_constant index ≡ true → vs ≡ constant_value index) → range_length part.range ≡ word_length signal → InSets (word_part_bits signal address part index) sets s
    → AllIn (set_select part index rs (set_word signal address ts (map sets (bits_of_signal signal)))) (select part (sign index) (select_word signal (sign address) (read s (bits_of_signal signal)) us) vs)
word_part_in signal address part index sets s us vs ha hi ca ci l k =
    by_test (is_constant address && is_constant index)
    (λ e.
    let p = and_both (is_constant address) (is_constant index) e in
    let one : us ≡ constant_value address = ca p.0 in
    let two : vs ≡ constant_value index = ci p.1 in
    rw (p.0, p.1) (rw (one, two) (by_constants (subst (λ xs. InSets xs sets s) (part_constant signal address part index e) k))))
    (λ e.
    part_in part index vs hi (word_value_in signal address sets s us ha ca (subst (λ xs. InSets xs sets s) (part_variable signal address part index e) k)) ci
    (l ∙ sym (length_select_word signal (sign address) us (read s (bits_of_signal signal)))))
  where
    of_word : List (Option ℕ)
    of_word = word_places signal (sign address) (constant_value address)

    of_part : List (Option ℕ)
    of_part = places part (sign index) (constant_value index)

    by_constants : InSets (somes (bits_at signal (word_part_places signal (sign address) (constant_value address) part (sign index) (constant_value index)))) sets s
        → AllIn (map (at_place (only X) (map (at_place (only X) (map sets (bits_of_signal signal))) of_word)) of_part) (map (at_place X (map (at_place X (map s (bits_of_signal signal))) of_word)) of_part)
    by_constants q =
        subst (λ xs. AllIn xs (map (at_place X (map (at_place X (map s (bits_of_signal signal))) of_word)) of_part)) (sym (twice (only X) (map sets (bits_of_signal signal)) of_word of_part))
        (subst (AllIn (map (at_place (only X) (map sets (bits_of_signal signal))) (map (at_place None of_word) of_part))) (sym (twice X (map s (bits_of_signal signal)) of_word of_part))
        (constant_in sets s signal (map (at_place None of_word) of_part) q))

any_has : (v : Bit4) → has any_value v ≡ true
any_has Zero = refl
any_has One = refl
any_has X = refl
any_has Z = refl

any_in : (n : ℕ) (vs : BitList) → length vs ≡ n → AllIn (replicate n any_value) vs
any_in zero [] l = none_in
any_in zero (v ∷ vs) l = absurd (omega arith)
any_in (suc n) [] l = absurd (omega arith)
any_in (suc n) (v ∷ vs) l = one_in (any_has v) (any_in n vs (omega arith))

quotient_in : (e : Expression) (w : ℕ) (g : Bool) (s : State) → width e ≤ w → AllIn (lift_quotient e w g) (value e w g s)
quotient_in e w g s h =
    by_test (is_constant e)
    (λ c. rw c (subst (λ v. AllIn (map only (value e w g (λ b. X))) v) (value_reads e w g (λ b. X) s (constant_agree e c (λ b. X) s)) (all_only (value e w g (λ b. X)))))
    (λ c. rw c (any_in w (value e w g s) (length_value e w g s h)))

-- of a shift the amount is evaluated by itself
shift_own : (op : BinaryOp) (w : ℕ) (g : Bool) (a b : Expression) (s : State) → lift_of op ≡ Moved → is_constant b ≡ true → value b (right_width (way op) w (width a) (width b)) (right_sign (way op) g (sign a) (sign b)) s ≡ constant_value b
shift_own op w g a b s o c = own op o ∙ constant_index b s c
  where
    own : (op : BinaryOp) → lift_of op ≡ Moved → value b (right_width (way op) w (width a) (width b)) (right_sign (way op) g (sign a) (sign b)) s ≡ own_value b s
    own ShiftLeft o = refl
    own ShiftRight o = refl
    own ShiftLeftArith o = refl
    own ShiftRightArith o = refl
    own _ o = cc

pub operator_in : (l : Lift) (op : BinaryOp) → lift_of op ≡ l → (w : ℕ) (g : Bool) (a b : Expression) (s : State) {ss ts : List Set4} → width (Binary op a b) ≤ w
    → AllIn ss (value a (left_width (way op) w (width a) (width b)) (left_sign (way op) g (sign a) (sign b)) s)
    → AllIn ts (value b (right_width (way op) w (width a) (width b)) (right_sign (way op) g (sign a) (sign b)) s)
    → AllIn (lift_operator l op w g (left_sign (way op) g (sign a) (sign b)) b (lift_quotient (Binary op a b) w g) ss ts) (value (Binary op a b) w g s)
operator_in Divided op o w g a b s h ia ib = quotient_in (Binary op a b) w g s h
operator_in Moved op o w g a b s h ia ib = all_extend w g (shifted_in op (left_sign (way op) g (sign a) (sign b)) (right_sign (way op) g (sign a) (sign b)) b o ib ia (shift_own op w g a b s o))
operator_in FromSets op o w g a b s h ia ib = all_extend w g (binary_in op (left_sign (way op) g (sign a) (sign b)) (right_sign (way op) g (sign a) (sign b)) o ia ib)
