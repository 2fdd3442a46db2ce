-- A value has the length of its context.
use Rattle.std.proofs.Common.{◌≡◌, ℕ, zero, suc, ◌+◌, ◌-◌, ◌*◌, ◌≤◌, min, max, Bool, true, false, List, [], ◌∷◌, ◌++◌, ◌&&◌, if◌then◌else◌, refl, sym, ap, ◌∙◌, length, drop, replicate, Option, Some, None, arith, length-append, length-take, ℤ, pos, negsuc, ◌+ℤ◌, ◌^◌, int_div, int_rem}
use Rattle.std.proofs.Math.ListN.{length-map, length-replicate}
use Rattle.vs_four.specs.declared.Bit4.{Bit4}
use Rattle.vs_four.specs.declared.Bit4.TheVariants.{Zero, One, X}
use Rattle.vs_net.specs.Network.{State, write_all}
use Rattle.vs_four.specs.Logic.{BitList, map2, choose, truth, all_known}
use Rattle.vs_four.specs.Lengths.{extend_with, last_or, repeat}
use Rattle.vs_four.specs.Tables.{merge_bit, not_bit, and_bit, or_bit, xor_bit, xnor_bit}
use Rattle.vs_four.specs.Numbers.{bits_of, bits_of_integer, if_known, has_quotient, integer, number, reciprocal, bits_if_any, raised, pow}
use Rattle.vs_four.specs.Shifts.{move_up, move_down, distance}
use Rattle.vs_four.specs.Selects.{Part, range_length, at_place, places, select}
use Rattle.vs_design.proofs.Places.{first_place, places_from, places_are}
use Rattle.vs_design.specs.Expressions.{Signal, signal_length, word_length, Source, UnaryOp, Plus, Minus, BitNot, Signed, Unsigned, BinaryOp, Add, Subtract, Multiply, Divide, Remainder, BitAnd, BitOr, BitXor, BitXnor, ShiftLeft, ShiftRight, ShiftLeftArith, ShiftRightArith, Power, Expression, Literal, Name, Select, Word, WordPart, Unary, Binary, Choice, Join, Repeat, At, Call, Way, InContext, Own, Compared, Shifted, Raised, unary_way, way, unary_length, binary_length, width, sign}
use Rattle.vs_design.specs.Values.{count_from, bits_of_signal, read, source_value, address_place, spread, word_places, select_word, apply_unary, or_all_x, apply_binary, left_width, right_width, left_sign, right_sign, unset, value, argument_state, body, assigned_value}

pub length_extend : {A : Type 0} (fill : A) (w : ℕ) (xs : List A) → length xs ≤ w → length (extend_with fill w xs) ≡ w
length_extend fill w xs h = length-append xs (replicate (w - length xs) fill) ∙ ap (λ k. length xs + k) (length-replicate (w - length xs) fill) ∙ omega arith

pub length_map2 : {A B C : Type 0} (f : A → B → C) (xs : List A) (ys : List B) → length xs ≡ length ys → length (map2 f xs ys) ≡ length xs
length_map2 f [] ys h = refl
length_map2 f (x ∷ xs) [] h = absurd (omega arith)
length_map2 f (x ∷ xs) (y ∷ ys) h = ap suc (length_map2 f xs ys (omega arith))

pub length_bits_of : (w n : ℕ) → length (bits_of w n) ≡ w
length_bits_of zero n = refl
length_bits_of (suc w) n = ap suc (length_bits_of w _)

pub length_if_known : (known : Bool) (w : ℕ) (a : BitList) → length a ≡ w → length (if_known known w a) ≡ w
length_if_known true w a h = h
length_if_known false w a h = length-replicate w X

pub length_bits_of_integer : (w : ℕ) (z : ℤ) → length (bits_of_integer w z) ≡ w
length_bits_of_integer w (pos n) = length_bits_of w n
length_bits_of_integer w (negsuc n) = length-map (bits_of w n) not_bit ∙ length_bits_of w n

pub length_or_all_x : (w : ℕ) (known : Bool) (a : BitList) → length a ≡ w → length (or_all_x w (if known then Some a else None)) ≡ w
length_or_all_x w true a h = h
length_or_all_x w false a h = length-replicate w X

pub length_move_up : {A : Type 0} (fill : A) (n : ℕ) (xs : List A) → length (move_up fill n xs) ≡ length xs
length_move_up fill n xs = length-take (length xs) (replicate n fill ++ xs) ∙ ap (λ k. min (length xs) k) (length-append (replicate n fill) xs) ∙ omega arith

pub length_move_down : {A : Type 0} (fill : A) (n : ℕ) (xs : List A) → length (move_down fill n xs) ≡ length xs
length_move_down fill n xs = length-take (length xs) (drop n xs ++ replicate (length xs) fill) ∙ ap (λ k. min (length xs) k) (length-append (drop n xs) (replicate (length xs) fill) ∙ ap (λ k. length (drop n xs) + k) (length-replicate (length xs) fill)) ∙ omega arith

pub length_repeat : {A : Type 0} (n : ℕ) (xs : List A) → length (repeat n xs) ≡ n * length xs
length_repeat zero xs = sym (omega arith)
length_repeat (suc n) xs = length-append xs (repeat n xs) ∙ ap (λ k. length xs + k) (length_repeat n xs) ∙ omega arith

pub length_count : (first n : ℕ) → length (count_from first n) ≡ n
length_count first zero = refl
length_count first (suc n) = ap suc (length_count (suc first) n)

pub length_places_from : (len : ℕ) (n : ℕ) (z : ℤ) → length (places_from len z n) ≡ n
length_places_from len zero z = refl
length_places_from len (suc n) z = ap suc (length_places_from len n (z +ℤ pos 1))

pub length_either : {A : Type 0} (b : Bool) (xs ys : List A) (n : ℕ) → length xs ≡ n → length ys ≡ n → length (if b then xs else ys) ≡ n
length_either true xs ys n h k = h
length_either false xs ys n h k = k

pub length_places : (p : Part) (g : Bool) (index : BitList) → length (places p g index) ≡ p.width
length_places p g index = ap length (places_are p g index) ∙ length_either (all_known index) (places_from (range_length p.range) (first_place p (integer g index)) p.width) (replicate p.width None) p.width (length_places_from (range_length p.range) p.width (first_place p (integer g index))) (length-replicate p.width None)

pub length_source : (state : State) (source : Source) (part : Part) (g : Bool) (index : BitList) → length (select part g (source_value state source) index) ≡ part.width
length_source state source part g index = length-map (places part g index) (at_place X (source_value state source)) ∙ length_places part g index

pub length_signal : (state : State) (signal : Signal) → length (read state (bits_of_signal signal)) ≡ signal_length signal
length_signal state signal = length-map (bits_of_signal signal) state ∙ length_count signal.first (signal_length signal)

pub length_spread : (k : ℕ) (p : Option ℕ) → length (spread k p) ≡ k
length_spread k None = length-replicate k None
length_spread k (Some n) = length-map (count_from (n * k) k) Some ∙ length_count (n * k) k

pub length_word : (signal : Signal) (g : Bool) (index : BitList) → length (word_places signal g index) ≡ word_length signal
length_word signal g index = length_spread (word_length signal) (address_place signal g index)

pub left_fits : (y : Way) (w m n : ℕ) → binary_length y m n ≤ w → m ≤ left_width y w m n
left_fits InContext w m n h = omega arith
left_fits Own w m n h = omega arith
left_fits Compared w m n h = omega arith
left_fits Shifted w m n h = omega arith
left_fits Raised w m n h = omega arith

pub right_fits : (y : Way) (w m n : ℕ) → binary_length y m n ≤ w → n ≤ right_width y w m n
right_fits InContext w m n h = omega arith
right_fits Own w m n h = omega arith
right_fits Compared w m n h = omega arith
right_fits Shifted w m n h = omega arith
right_fits Raised w m n h = omega arith

pub unary_fits : (op : UnaryOp) (w n : ℕ) → unary_length op n ≤ w → n ≤ left_width (unary_way op) w n 0
unary_fits Plus w n h = h
unary_fits Minus w n h = h
unary_fits BitNot w n h = h
unary_fits _ w n h = omega arith

length_unary : (op : UnaryOp) (w n : ℕ) (a : BitList) → length a ≡ left_width (unary_way op) w n 0 → unary_length op n ≤ w → length (apply_unary op a) ≤ w
length_unary Plus w n a h k = omega arith
length_unary Minus w n a h k = let e = length_if_known (all_known a) (length a) (bits_of (length a) (2 ^ length a - number a)) (length_bits_of (length a) (2 ^ length a - number a)) in omega (arith, e)
length_unary BitNot w n a h k = let e = length-map a not_bit in omega (arith, e)
length_unary Signed w n a h k = omega arith
length_unary Unsigned w n a h k = omega arith
length_unary _ w n a h k = k

-- a power is as long as its base
length_any : (w : ℕ) (o : Option ℤ) → length (or_all_x w (bits_if_any w o)) ≡ w
length_any w None = length-replicate w X
length_any w (Some z) = length_bits_of_integer w z

length_raised : (known g : Bool) (a : BitList) (z : ℤ) → length (or_all_x (length a) (if known then raised g a z else None)) ≡ length a
length_raised false g a z = length-replicate (length a) X
length_raised true g a (pos n) = length_bits_of (length a) (number a ^ n)
length_raised true g a (negsuc n) = length_any (length a) (reciprocal (integer g a) (suc n))

length_power : (g j : Bool) (a b : BitList) → length (or_all_x (length a) (pow g j a b)) ≡ length a
length_power g j a b = length_raised (all_known a && all_known b) g a (integer j b)

length_binary : (op : BinaryOp) (g j : Bool) (w m n : ℕ) (a b : BitList) → length a ≡ left_width (way op) w m n → length b ≡ right_width (way op) w m n → binary_length (way op) m n ≤ w → length (apply_binary op g j a b) ≤ w
length_binary Add g j w m n a b h k l = let e = length_if_known (all_known a && all_known b) (length a) (bits_of (length a) (number a + number b)) (length_bits_of (length a) (number a + number b)) in omega (arith, e)
length_binary Subtract g j w m n a b h k l = let e = length_if_known (all_known a && all_known b) (length a) (bits_of (length a) ((number a + 2 ^ length a) - number b)) (length_bits_of (length a) ((number a + 2 ^ length a) - number b)) in omega (arith, e)
length_binary Multiply g j w m n a b h k l = let e = length_if_known (all_known a && all_known b) (length a) (bits_of (length a) (number a * number b)) (length_bits_of (length a) (number a * number b)) in omega (arith, e)
length_binary Divide g j w m n a b h k l = let e = length_or_all_x (length a) (has_quotient a b) (bits_of_integer (length a) (int_div (integer g a) (integer g b))) (length_bits_of_integer (length a) (int_div (integer g a) (integer g b))) in omega (arith, e)
length_binary Remainder g j w m n a b h k l = let e = length_or_all_x (length a) (has_quotient a b) (bits_of_integer (length a) (int_rem (integer g a) (integer g b))) (length_bits_of_integer (length a) (int_rem (integer g a) (integer g b))) in omega (arith, e)
length_binary BitAnd g j w m n a b h k l = let e = length_map2 and_bit a b (h ∙ sym k) in omega (arith, e)
length_binary BitOr g j w m n a b h k l = let e = length_map2 or_bit a b (h ∙ sym k) in omega (arith, e)
length_binary BitXor g j w m n a b h k l = let e = length_map2 xor_bit a b (h ∙ sym k) in omega (arith, e)
length_binary BitXnor g j w m n a b h k l = let e = length_map2 xnor_bit a b (h ∙ sym k) in omega (arith, e)
length_binary ShiftLeft g j w m n a b h k l = let e = length_if_known (all_known b) (length a) (move_up Zero (distance (length a) b) a) (length_move_up Zero (distance (length a) b) a) in omega (arith, e)
length_binary ShiftLeftArith g j w m n a b h k l = let e = length_if_known (all_known b) (length a) (move_up Zero (distance (length a) b) a) (length_move_up Zero (distance (length a) b) a) in omega (arith, e)
length_binary ShiftRight g j w m n a b h k l = let e = length_if_known (all_known b) (length a) (move_down Zero (distance (length a) b) a) (length_move_down Zero (distance (length a) b) a) in omega (arith, e)
length_binary ShiftRightArith true j w m n a b h k l = let e = length_if_known (all_known b) (length a) (move_down (last_or Zero a) (distance (length a) b) a) (length_move_down (last_or Zero a) (distance (length a) b) a) in omega (arith, e)
length_binary ShiftRightArith false j w m n a b h k l = let e = length_if_known (all_known b) (length a) (move_down Zero (distance (length a) b) a) (length_move_down Zero (distance (length a) b) a) in omega (arith, e)
length_binary Power g j w m n a b h k l = let e = length_power g j a b in omega (arith, e)
length_binary _ g j w m n a b h k l = l

length_choose : (c : Bit4) (w : ℕ) (p q : BitList) → length p ≡ w → length q ≡ w → length (choose c p q) ≡ w
length_choose One w p q h k = h
length_choose Zero w p q h k = k
length_choose _ w p q h k = length_map2 merge_bit p q (h ∙ sym k) ∙ h

-- a value has the length of its context, which is at least the expression's own
pub length_value : (e : Expression) (w : ℕ) (g : Bool) (s : State) → width e ≤ w → length (value e w g s) ≡ w
length_value (Literal bits signed sized) w g s h = length_extend _ w bits h
length_value (Name signal) w g s h = let e = length_signal s signal in length_extend _ w (read s (bits_of_signal signal)) (omega (arith, e))
length_value (Select source part index) w g s h =
    let v = value index (width index) (sign index) s in
    let e = length_source s source part (sign index) v in
    length_extend _ w (select part (sign index) (source_value s source) v) (omega (arith, e))
length_value (Word signal index) w g s h =
    let v = value index (width index) (sign index) s in
    let a = read s (bits_of_signal signal) in
    let e = length-map (word_places signal (sign index) v) (at_place X a) ∙ length_word signal (sign index) v in
    length_extend _ w (select_word signal (sign index) a v) (omega (arith, e))
length_value (WordPart signal address part index) w g s h =
    let v = value index (width index) (sign index) s in
    let a = select_word signal (sign address) (read s (bits_of_signal signal)) (value address (width address) (sign address) s) in
    let e = length-map (places part (sign index) v) (at_place X a) ∙ length_places part (sign index) v in
    length_extend _ w (select part (sign index) a v) (omega (arith, e))
length_value (Unary op a) w g s h =
    let v = value a (left_width (unary_way op) w (width a) 0) (left_sign (unary_way op) g (sign a) false) s in
    let e : length v ≡ left_width (unary_way op) w (width a) 0 = length_value a (left_width (unary_way op) w (width a) 0) (left_sign (unary_way op) g (sign a) false) s (unary_fits op w (width a) h) in
    length_extend _ w (apply_unary op v) (length_unary op w (width a) v e h)
length_value (Binary op a b) w g s h =
    let va = value a (left_width (way op) w (width a) (width b)) (left_sign (way op) g (sign a) (sign b)) s in
    let vb = value b (right_width (way op) w (width a) (width b)) (right_sign (way op) g (sign a) (sign b)) s in
    let ea : length va ≡ left_width (way op) w (width a) (width b) = length_value a (left_width (way op) w (width a) (width b)) (left_sign (way op) g (sign a) (sign b)) s (left_fits (way op) w (width a) (width b) h) in
    let eb : length vb ≡ right_width (way op) w (width a) (width b) = length_value b (right_width (way op) w (width a) (width b)) (right_sign (way op) g (sign a) (sign b)) s (right_fits (way op) w (width a) (width b) h) in
    length_extend _ w (apply_binary op (left_sign (way op) g (sign a) (sign b)) (right_sign (way op) g (sign a) (sign b)) va vb) (length_binary op (left_sign (way op) g (sign a) (sign b)) (right_sign (way op) g (sign a) (sign b)) w (width a) (width b) va vb ea eb h)
length_value (Choice c p q) w g s h =
    length_choose (truth (value c (width c) (sign c) s)) w (value p w g s) (value q w g s) (length_value p w g s (omega arith)) (length_value q w g s (omega arith))
length_value (Join high low) w g s h =
    let a = value high (width high) (sign high) s in
    let b = value low (width low) (sign low) s in
    let ea : length a ≡ width high = length_value high (width high) (sign high) s (omega arith) in
    let eb : length b ≡ width low = length_value low (width low) (sign low) s (omega arith) in
    let e = length-append b a in
    length_extend _ w (b ++ a) (omega (arith, e))
length_value (Repeat count a) w g s h =
    let v = value a (width a) (sign a) s in
    let e : length v ≡ width a = length_value a (width a) (sign a) s (omega arith) in
    let r = length_repeat count v ∙ ap (λ k. count * k) e in
    length_extend _ w (repeat count v) (omega (arith, r))
length_value (At place e) w g s h = length_value e w g s h
length_value (Call header statement arguments) w g s h =
    let begin = argument_state arguments header.inputs s unset in
    let after = write_all begin (body statement begin).writes in
    let e = length_signal after header.result in length_extend _ w (read after (bits_of_signal header.result)) (omega (arith, e))

pub length_assigned : (e : Expression) (n : ℕ) (s : State) → length (assigned_value e n s) ≡ n
length_assigned e n s =
    let h = length_value e (max (width e) n) (sign e) s (omega arith) in
    length-take n (value e (max (width e) n) (sign e) s) ∙ omega (arith, h)
