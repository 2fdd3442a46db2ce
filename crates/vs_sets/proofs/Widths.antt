-- Lifted sets are as many as the bits of their context.
use Rattle.std.proofs.Common.{◌≡◌, ◌≤◌, ◌+◌, ◌-◌, ◌*◌, ℕ, zero, suc, Bool, true, false, ℤ, pos, if◌then◌else◌, List, [], ◌∷◌, ◌++◌, length, map, take, drop, refl, sym, ap, ◌∙◌, arith, length-append, Option, Some, None}
use Rattle.vs_four.specs.declared.Range.{Range}
use Rattle.std.specs.Prelude.{replicate, max, min, ◌+ℤ◌, ◌-ℤ◌}
use Rattle.vs_flat.specs.Trees.{joined}
use Rattle.std.proofs.lemmas.List.{append-nil, length-map, length-replicate, length-take, length-drop}
use Rattle.vs_four.specs.declared.Bit4.TheVariants.{Zero, X}
use Rattle.vs_four.specs.Logic.{map2, all_known, BitList}
use Rattle.vs_four.specs.Numbers.{integer}
use Rattle.vs_four.specs.Lengths.{last_or, join, repeat, extend_literal}
use Rattle.vs_four.specs.Shifts.{move_up, move_down, distance}
use Rattle.vs_four.specs.Selects.{Part, range_length, one_bit, is_descending, indices, indices_up, indices_down, places, at_place, least_index, greatest_index}
use Rattle.vs_design.specs.Sets.{Set4, only, union, all_words, variable, any_result, any_value, set_shift_by, set_shift, set_choose, set_or}
use Rattle.vs_design.specs.Expressions as E
use Rattle.vs_design.specs.Expressions.{Expression, Literal, Name, Select, Word, WordPart, Unary, Binary, Choice, Join, Repeat, At, Call, UnaryOp, BinaryOp, unary_length, binary_length, unary_way, way, width, sign, is_constant, signal_length, word_length, addresses}
use Rattle.vs_design.specs.Values.{left_width, right_width, left_sign, right_sign, count_from, bits_of_signal, address_place, spread, word_places, value, constant_value}
use Rattle.vs_design.specs.Lifted.{Family, Lift, FromSets, Moved, Divided, lift_of, lift_operator, lift_quotient, lift_shift, fill_set, is_left, extend_sets, lift_unary, lift_binary, set_select, set_word, surely_inside, source_sets, lifted, argument_sets, lifted_body, own_sets}
use Rattle.vs_design.specs.TreeLaws.{ValueLength}
use Rattle.vs_sets.specs.PartSets.{part_sets}
use Rattle.vs_sets.proofs.Steps.{length-map2}

pub length-extend_sets : (w : ℕ) (s : Bool) (ss : List Set4) → length ss ≤ w → length (extend_sets w s ss) ≡ w
length-extend_sets w s ss h =
    let fill = if s then last_or (only Zero) ss else only Zero in
    let e = length-append ss (replicate (w - length ss) fill) in
    let f = length-replicate (w - length ss) fill in
    omega (arith, e, f)

length-count_from : (first n : ℕ) → length (count_from first n) ≡ n
length-count_from first zero = refl
length-count_from first (suc n) = ap suc (length-count_from (suc first) n)

pub length-signal : (sets : Family) (s : E.Signal) → length (map sets (bits_of_signal s)) ≡ signal_length s
length-signal sets s = length-map (bits_of_signal s) sets ∙ length-count_from s.first (signal_length s)

-- ---- selects

length-up : (i : ℤ) (n : ℕ) → length (indices_up i n) ≡ n
length-up i zero = refl
length-up i (suc n) = ap suc (length-up (i +ℤ pos 1) n)

length-down : (i : ℤ) (n : ℕ) → length (indices_down i n) ≡ n
length-down i zero = refl
length-down i (suc n) = ap suc (length-down (i -ℤ pos 1) n)

length-indices : (p : Part) (b : ℤ) → length (indices p b) ≡ p.width
length-indices p b = elim (is_descending p.range) as (λ d. length (if d then indices_up (least_index p b) p.width else indices_down (greatest_index p b) p.width) ≡ p.width) [
  | true ↦ length-up (least_index p b) p.width
  | false ↦ length-down (greatest_index p b) p.width
]

pub length-places : (p : Part) (s : Bool) (index : BitList) → length (places p s index) ≡ p.width
length-places p s index = elim (all_known index) as (λ k. length (if k then map (Rattle.vs_four.specs.Selects.place_of p.range) (indices p (integer s index)) else replicate p.width None) ≡ p.width) [
  | true ↦ length-map (indices p (integer s index)) (Rattle.vs_four.specs.Selects.place_of p.range) ∙ length-indices p (integer s index)
  | false ↦ length-replicate p.width None
]

pub length-set_select : (p : Part) (index : Expression) (index_sets ss : List Set4) → length (set_select p index index_sets ss) ≡ p.width
length-set_select p index index_sets ss = at (is_constant index) where
  at : (k : Bool) → length (if k then map (at_place (only X) ss) (places p (sign index) (constant_value index)) else replicate p.width (Rattle.vs_design.specs.Sets.variable index_sets (Rattle.vs_design.specs.Lifted.surely_inside p (sign index) index_sets) (Rattle.vs_design.specs.Sets.all_of ss))) ≡ p.width
  at true = length-map (places p (sign index) (constant_value index)) (at_place (only X) ss) ∙ length-places p (sign index) (constant_value index)
  at false = length-replicate p.width _

pub length-all_words : (k n : ℕ) (ss : List Set4) → length ss ≡ n * k → length (all_words k n ss) ≡ k
length-all_words k zero ss h = length-replicate k _
length-all_words k (suc n) ss h =
    let t = length-take k ss in
    let d = length-drop k ss in
    let rest : length (all_words k n (drop k ss)) ≡ k = length-all_words k n (drop k ss) (omega (arith, d, h)) in
    let first : length (take k ss) ≡ k = omega (arith, t, h) in
    length-map2 union (take k ss) (all_words k n (drop k ss)) (first ∙ sym rest) ∙ first

length-spread : (k : ℕ) (p : Option ℕ) → length (spread k p) ≡ k
length-spread k None = length-replicate k _
length-spread k (Some n) = length-map (count_from (n * k) k) Some ∙ length-count_from (n * k) k

-- a signal has as many bits as its words have
pub words_are : (s : E.Signal) → signal_length s ≡ range_length (addresses s) * word_length s
words_are s = go s.words (E.range_or_one s.range) where
  go : (o : Option Range) (k : ℕ) → E.words_length o k ≡ range_length (E.range_or_zero o) * k
  go None k = omega arith
  go (Some r) k = refl

pub length-set_word : (signal : E.Signal) (index : Expression) (index_sets ss : List Set4) → length ss ≡ signal_length signal → length (set_word signal index index_sets ss) ≡ word_length signal
length-set_word signal index index_sets ss h = at (is_constant index) where
  at : (k : Bool) → length (if k then map (at_place (only X) ss) (word_places signal (sign index) (constant_value index)) else map (variable index_sets (surely_inside (one_bit (addresses signal)) (sign index) index_sets)) (all_words (word_length signal) (range_length (addresses signal)) ss)) ≡ word_length signal
  at true = length-map (word_places signal (sign index) (constant_value index)) (at_place (only X) ss) ∙ length-spread (word_length signal) (address_place signal (sign index) (constant_value index))
  at false = length-map (all_words (word_length signal) (range_length (addresses signal)) ss) _ ∙ length-all_words (word_length signal) (range_length (addresses signal)) ss (h ∙ words_are signal)

-- ---- operators

pub length-lift_unary : (op : UnaryOp) (ss : List Set4) (w n : ℕ) → length ss ≡ left_width (unary_way op) w n 0 → unary_length op n ≤ w → length (lift_unary op ss) ≤ w
length-lift_unary E.Plus ss w n h k = omega arith
length-lift_unary E.Minus ss w n h k = omega (arith, length-replicate (length ss) (Rattle.vs_design.specs.Sets.arithmetic ss))
length-lift_unary E.BitNot ss w n h k = omega (arith, length-map ss (Rattle.vs_design.specs.Sets.image Rattle.vs_four.specs.Tables.not_bit))
length-lift_unary E.LogicalNot ss w n h k = k
length-lift_unary E.ReduceAnd ss w n h k = k
length-lift_unary E.ReduceNand ss w n h k = k
length-lift_unary E.ReduceOr ss w n h k = k
length-lift_unary E.ReduceNor ss w n h k = k
length-lift_unary E.ReduceXor ss w n h k = k
length-lift_unary E.ReduceXnor ss w n h k = k
length-lift_unary E.Signed ss w n h k = omega arith
length-lift_unary E.Unsigned ss w n h k = omega arith

pairs : (f : Set4 → Set4 → Set4) (ss ts : List Set4) (w : ℕ) → length ss ≡ w → length ts ≡ w → length (map2 f ss ts) ≤ w
pairs f ss ts w h k = omega (arith, length-map2 f ss ts (h ∙ sym k))

copies : (n w : ℕ) (s : Set4) → n ≡ w → length (replicate n s) ≤ w
copies n w s h = omega (arith, length-replicate n s)

pub length-lift_binary : (op : BinaryOp) (ss ts : List Set4) (w m n : ℕ) → length ss ≡ left_width (way op) w m n → length ts ≡ right_width (way op) w m n → binary_length (way op) m n ≤ w → length (lift_binary op ss ts) ≤ w
length-lift_binary E.Add ss ts w m n h k b = copies (length ss) w _ h
length-lift_binary E.Subtract ss ts w m n h k b = copies (length ss) w _ h
length-lift_binary E.Multiply ss ts w m n h k b = copies (length ss) w _ h
length-lift_binary E.Divide ss ts w m n h k b = copies (length ss) w _ h
length-lift_binary E.Remainder ss ts w m n h k b = copies (length ss) w _ h
length-lift_binary E.Power ss ts w m n h k b = copies (length ss) w _ h
length-lift_binary E.BitAnd ss ts w m n h k b = pairs _ ss ts w h k
length-lift_binary E.BitOr ss ts w m n h k b = pairs _ ss ts w h k
length-lift_binary E.BitXor ss ts w m n h k b = pairs _ ss ts w h k
length-lift_binary E.BitXnor ss ts w m n h k b = pairs _ ss ts w h k
length-lift_binary E.Less ss ts w m n h k b = b
length-lift_binary E.LessEqual ss ts w m n h k b = b
length-lift_binary E.Greater ss ts w m n h k b = b
length-lift_binary E.GreaterEqual ss ts w m n h k b = b
length-lift_binary E.Equal ss ts w m n h k b = b
length-lift_binary E.NotEqual ss ts w m n h k b = b
length-lift_binary E.CaseEqual ss ts w m n h k b = b
length-lift_binary E.CaseNotEqual ss ts w m n h k b = b
length-lift_binary E.LogicalAnd ss ts w m n h k b = b
length-lift_binary E.LogicalOr ss ts w m n h k b = b
length-lift_binary E.ShiftLeft ss ts w m n h k b = copies (length ss) w _ h
length-lift_binary E.ShiftRight ss ts w m n h k b = copies (length ss) w _ h
length-lift_binary E.ShiftLeftArith ss ts w m n h k b = copies (length ss) w _ h
length-lift_binary E.ShiftRightArith ss ts w m n h k b = copies (length ss) w _ h

length-move_up : (fill : Set4) (n : ℕ) (ss : List Set4) → length (move_up fill n ss) ≡ length ss
length-move_up fill n ss =
    let e = length-take (length ss) (replicate n fill ++ ss) in
    let f = length-append (replicate n fill) ss in
    omega (arith, e, f)

length-move_down : (fill : Set4) (n : ℕ) (ss : List Set4) → length (move_down fill n ss) ≡ length ss
length-move_down fill n ss =
    let e = length-take (length ss) (drop n ss ++ replicate (length ss) fill) in
    let f = length-append (drop n ss) (replicate (length ss) fill) in
    let g = length-replicate (length ss) fill in
    omega (arith, e, f, g)

length-shift_by : (known left : Bool) (fill : Set4) (n : ℕ) (ss : List Set4) → length (set_shift_by known left fill n ss) ≡ length ss
length-shift_by true true fill n ss = length-move_up fill n ss
length-shift_by true false fill n ss = length-move_down fill n ss
length-shift_by false left fill n ss = length-replicate (length ss) (only X)

pub length-lift_shift : (op : BinaryOp) (s : Bool) (amount : Expression) (amount_sets ss : List Set4) → length (lift_shift op s amount amount_sets ss) ≡ length ss
length-lift_shift op s amount amount_sets ss = at (is_constant amount) where
  at : (k : Bool) → length (if k then set_shift_by (all_known (constant_value amount)) (is_left op) (fill_set op s ss) (distance (length ss) (constant_value amount)) ss else set_shift (fill_set op s ss) amount_sets ss) ≡ length ss
  at true = length-shift_by (all_known (constant_value amount)) (is_left op) (fill_set op s ss) (distance (length ss) (constant_value amount)) ss
  at false = length-replicate (length ss) _

length-quotient : ValueLength → (e : Expression) (w : ℕ) (s : Bool) → width e ≤ w → length (lift_quotient e w s) ≡ w
length-quotient law e w s h = at (is_constant e) where
  at : (k : Bool) → length (if k then map only (value e w s (λ b. X)) else replicate w any_value) ≡ w
  at true = length-map (value e w s (λ b. X)) only ∙ law e w s (λ b. X) h
  at false = length-replicate w any_value

pub length-repeat : {A : Type 0} (n : ℕ) (xs : List A) → length (repeat n xs) ≡ n * length xs
length-repeat zero xs = omega arith
length-repeat (suc n) xs =
    let e = length-append xs (repeat n xs) in
    let f = length-repeat n xs in
    omega (arith, e, f)

-- ---- expressions

-- an operand is no longer than its context
pub unary_wide : (op : UnaryOp) (w n : ℕ) → unary_length op n ≤ w → n ≤ left_width (unary_way op) w n 0
unary_wide E.Plus w n h = h
unary_wide E.Minus w n h = h
unary_wide E.BitNot w n h = h
unary_wide E.LogicalNot w n h = omega arith
unary_wide E.ReduceAnd w n h = omega arith
unary_wide E.ReduceNand w n h = omega arith
unary_wide E.ReduceOr w n h = omega arith
unary_wide E.ReduceNor w n h = omega arith
unary_wide E.ReduceXor w n h = omega arith
unary_wide E.ReduceXnor w n h = omega arith
unary_wide E.Signed w n h = omega arith
unary_wide E.Unsigned w n h = omega arith

pub left_wide : (y : E.Way) (w m n : ℕ) → binary_length y m n ≤ w → m ≤ left_width y w m n
left_wide E.InContext w m n h = omega arith
left_wide E.Own w m n h = omega arith
left_wide E.Compared w m n h = omega arith
left_wide E.Shifted w m n h = h
left_wide E.Raised w m n h = h

pub right_wide : (y : E.Way) (w m n : ℕ) → binary_length y m n ≤ w → n ≤ right_width y w m n
right_wide E.InContext w m n h = omega arith
right_wide E.Own w m n h = omega arith
right_wide E.Compared w m n h = omega arith
right_wide E.Shifted w m n h = omega arith
right_wide E.Raised w m n h = omega arith

extended_literal : (w : ℕ) (s sized : Bool) (bits : BitList) → length bits ≤ w → length (map only (extend_literal w s sized bits)) ≡ w
extended_literal w s sized bits h =
    let fill = if (Rattle.std.specs.Prelude.◌||◌ s (Rattle.std.specs.Prelude.◌&&◌ (Rattle.std.specs.Prelude.not sized) (Rattle.std.specs.Prelude.not (Rattle.vs_four.specs.Tables.is_known (last_or Zero bits))))) then last_or Zero bits else Zero in
    let e = length-append bits (replicate (w - length bits) fill) in
    let f = length-replicate (w - length bits) fill in
    length-map (bits ++ replicate (w - length bits) fill) only ∙ omega (arith, e, f)

operator_length : ValueLength → (y : Lift) (op : BinaryOp) (w : ℕ) (s t : Bool) (b e : Expression) (ss ts : List Set4)
    → width e ≤ w → (y ≡ Moved → length ss ≤ w) → length (lift_binary op ss ts) ≤ w → length (lift_operator y op w s t b (lift_quotient e w s) ss ts) ≡ w
operator_length law Divided op w s t b e ss ts wide left h = length-quotient law e w s wide
operator_length law Moved op w s t b e ss ts wide left h = length-extend_sets w s (lift_shift op t b ts ss) (omega (arith, length-lift_shift op t b ts ss, left refl))
operator_length law FromSets op w s t b e ss ts wide left h = length-extend_sets w s (lift_binary op ss ts) h

-- the operand of a shift is as long as its context
shift_left : (op : BinaryOp) (w m n k : ℕ) → k ≡ left_width (way op) w m n → lift_of op ≡ Moved → k ≤ w
shift_left E.ShiftLeft w m n k e h = omega arith
shift_left E.ShiftRight w m n k e h = omega arith
shift_left E.ShiftLeftArith w m n k e h = omega arith
shift_left E.ShiftRightArith w m n k e h = omega arith
shift_left _ w m n k e h = absurd (let z : ⊥ = cc in z)

-- lifted sets are as many as their context has bits
pub length-lifted : ValueLength → (e : Expression) (w : ℕ) (s : Bool) (sets : Family) → width e ≤ w → length (lifted e w s sets) ≡ w
length-lifted law (Literal bits signed sized) w s sets h = extended_literal w s sized bits h
length-lifted law (Name signal) w s sets h = length-extend_sets w s (map sets (bits_of_signal signal)) (omega (arith, length-signal sets signal))
length-lifted law (Select source part index) w s sets h =
    let ss = set_select part index (lifted index (width index) (sign index) sets) (source_sets sets source) in
    length-extend_sets w s ss (omega (arith, length-set_select part index (lifted index (width index) (sign index) sets) (source_sets sets source)))
length-lifted law (Word signal index) w s sets h =
    let ss = set_word signal index (lifted index (width index) (sign index) sets) (map sets (bits_of_signal signal)) in
    length-extend_sets w s ss (omega (arith, length-set_word signal index (lifted index (width index) (sign index) sets) (map sets (bits_of_signal signal)) (length-signal sets signal)))
length-lifted law (WordPart signal address part index) w s sets h =
    let word = set_word signal address (lifted address (width address) (sign address) sets) (map sets (bits_of_signal signal)) in
    let ss = set_select part index (lifted index (width index) (sign index) sets) word in
    length-extend_sets w s ss (omega (arith, length-set_select part index (lifted index (width index) (sign index) sets) word))
length-lifted law (Unary op a) w s sets h =
    let inner = left_width (unary_way op) w (width a) 0 in
    let own = left_sign (unary_way op) s (sign a) false in
    let e = length-lifted law a inner own sets (unary_wide op w (width a) h) in
    length-extend_sets w s (lift_unary op (lifted a inner own sets)) (length-lift_unary op (lifted a inner own sets) w (width a) e h)
length-lifted law (Binary op a b) w s sets h =
    let y = way op in
    let left = left_width y w (width a) (width b) in
    let right = right_width y w (width a) (width b) in
    let t = left_sign y s (sign a) (sign b) in
    let u = right_sign y s (sign a) (sign b) in
    let e = length-lifted law a left t sets (left_wide y w (width a) (width b) h) in
    let f = length-lifted law b right u sets (right_wide y w (width a) (width b) h) in
    operator_length law (lift_of op) op w s t b (Binary op a b) (lifted a left t sets) (lifted b right u sets) h
    (shift_left op w (width a) (width b) (length (lifted a left t sets)) e)
    (length-lift_binary op (lifted a left t sets) (lifted b right u sets) w (width a) (width b) e f h)
length-lifted law (Choice c p q) w s sets h =
    let e = length-lifted law p w s sets (omega arith) in
    let f = length-lifted law q w s sets (omega arith) in
    length-map2 _ (lifted p w s sets) (lifted q w s sets) (e ∙ sym f) ∙ e
length-lifted law (Join high low) w s sets h =
    let hs = lifted high (width high) (sign high) sets in
    let ls = lifted low (width low) (sign low) sets in
    let e = length-lifted law high (width high) (sign high) sets (omega arith) in
    let f = length-lifted law low (width low) (sign low) sets (omega arith) in
    length-extend_sets w s (join hs ls) (omega (arith, length-append ls hs, e, f))
length-lifted law (Repeat count a) w s sets h =
    let ss = lifted a (width a) (sign a) sets in
    let e = length-lifted law a (width a) (sign a) sets (omega arith) in
    length-extend_sets w s (repeat count ss) (rw (length-repeat count ss, e) h)
length-lifted law (At place e) w s sets h = length-lifted law e w s sets h
length-lifted law (Call header statement arguments) w s sets h =
    let after = lifted_body statement (argument_sets arguments header.inputs sets (λ b. only X)) in
    length-extend_sets w s (map after (bits_of_signal header.result)) (omega (arith, length-signal after header.result))

pub length-own : ValueLength → (e : Expression) (sets : Family) → length (own_sets e sets) ≡ width e
length-own law e sets = length-lifted law e (width e) (sign e) sets (omega arith)

-- ---- concatenations

same_extended : (w : ℕ) (s : Bool) (ss : List Set4) → length ss ≡ w → extend_sets w s ss ≡ ss
same_extended w s ss h =
    let fill = if s then last_or (only Zero) ss else only Zero in
    let none : w - length ss ≡ 0 = omega arith in
    ap (λ n. ss ++ replicate n fill) none ∙ append-nil ss

-- the sets of a concatenation are those of its parts
pub joined_sets : ValueLength → (es : List Expression) (sets : Family) → own_sets (joined es) sets ≡ part_sets es sets
joined_sets law [] sets = refl
joined_sets law (e ∷ []) sets = refl
joined_sets law (e ∷ f ∷ es) sets =
    let rest = joined (f ∷ es) in
    let hs = own_sets e sets in
    let ls = own_sets rest sets in
    same_extended (width e + width rest) false (ls ++ hs) (omega (arith, length-append ls hs, length-own law e sets, length-own law rest sets))
    ∙ ap (λ t. t ++ hs) (joined_sets law (f ∷ es) sets)
