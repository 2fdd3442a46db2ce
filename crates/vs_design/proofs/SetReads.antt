-- Lifted sets have the lengths of values, and depend on the sets of what is read alone.
use Rattle.std.proofs.Common.{◌≡◌, ℕ, zero, suc, ◌+◌, ◌*◌, ◌≤◌, Bool, true, false, List, [], ◌∷◌, ◌++◌, ◌&&◌, ◌||◌, ◌==◌, if◌then◌else◌, refl, sym, ap, ◌∙◌, subst, map, length, max, get_or, Option, Some, None, arith, add-zero, length-append, length-take, length-drop, take, drop}
use Rattle.std.proofs.Math.ListN.{length-map, length-replicate}
use Rattle.vs_four.specs.declared.Bit4.TheVariants.{X}
use Rattle.vs_four.specs.Tables.{not_bit, and_bit, or_bit, xor_bit, xnor_bit, merge_bit}
use Rattle.vs_four.specs.Logic.{all_known}
use Rattle.vs_four.specs.Lengths.{extend_literal, join, repeat, cut}
use Rattle.vs_four.specs.Shifts.{distance}
use Rattle.vs_four.specs.Selects.{Part, range_length, places, at_place}
use Rattle.vs_design.specs.Expressions.{Signal, signal_length, word_length, addresses, Source, OfSignal, OfConstant, UnaryOp, Plus, Minus, BitNot, Signed, Unsigned, BinaryOp, Add, Subtract, Multiply, Divide, Remainder, BitAnd, BitOr, BitXor, BitXnor, ShiftLeft, ShiftRight, ShiftLeftArith, ShiftRightArith, Power, Expression, Literal, Name, Select, Word, WordPart, Unary, Binary, Choice, Join, Repeat, At, Call, Items, NoItem, Item, unary_way, way, unary_length, binary_length, width, sign, is_constant}
use Rattle.vs_design.specs.Values.{count_from, bits_of_signal, word_places, value, constant_value, left_width, right_width, left_sign, right_sign, word_part_places}
use Rattle.vs_design.specs.Bodies.{bits_at}
use Rattle.vs_design.specs.Footprints.{contains, somes, source_bits, addressed_bits, read_bits, items_reads, word_part_bits}
use Rattle.vs_design.specs.Sets.{Set4, only, none, all_words, any_value, image, image2, union, when, set_or, arithmetic, set_shift_by, set_choose}
use Rattle.vs_design.specs.Lifted.{Family, extend_sets, source_sets, set_select, set_word, lift_unary, lift_binary, lift_of, is_left, fill_set, lift_shift, lift_quotient, lift_operator, lifted, lifted_items, argument_sets, lifted_body, assigned_sets}
use Rattle.vs_design.specs.LiftedBodies.{put_each}
use Rattle.vs_design.specs.TreeLaws.{SameSets}
use Rattle.vs_design.proofs.Lists.{by_test, or_right, contains_head, contains-left, contains-right, and_both}
use Rattle.vs_design.proofs.Lengths.{length_extend, length_map2, length_move_up, length_move_down, length_repeat, length_count, length_places, length_word, left_fits, right_fits, unary_fits, length_value}
use Rattle.vs_design.proofs.Words.{words_are, addressed_constant, addressed_variable}
use Rattle.vs_design.proofs.WordParts.{twice, part_constant, part_variable}

-- ---- lengths

extend_long : (w : ℕ) (g : Bool) (ss : List Set4) → length ss ≤ w → length (extend_sets w g ss) ≡ w
extend_long w g ss h = length_extend _ w ss h

unary_long : (op : UnaryOp) (w n : ℕ) (ss : List Set4) → length ss ≡ left_width (unary_way op) w n 0 → unary_length op n ≤ w → length (lift_unary op ss) ≤ w
unary_long Plus w n ss h k = omega arith
unary_long Minus w n ss h k = let e = length-replicate (length ss) (arithmetic ss) in omega (arith, e)
unary_long BitNot w n ss h k = let e = length-map ss (image not_bit) in omega (arith, e)
unary_long Signed w n ss h k = omega arith
unary_long Unsigned w n ss h k = omega arith
unary_long _ w n ss h k = k

shift_long : (op : BinaryOp) (g : Bool) (amount : Expression) (ts ss : List Set4) → length (lift_shift op g amount ts ss) ≡ length ss
shift_long op g amount ts ss =
    by_test (is_constant amount)
    (λ e. rw e (by_constant (all_known (constant_value amount)) (is_left op) (fill_set op g ss) (distance (length ss) (constant_value amount))))
    (λ e. rw e (length-replicate (length ss) _))
  where
    by_constant : (known left : Bool) (fill : Set4) (n : ℕ) → length (set_shift_by known left fill n ss) ≡ length ss
    by_constant true true fill n = length_move_up fill n ss
    by_constant true false fill n = length_move_down fill n ss
    by_constant false left fill n = length-replicate (length ss) (only X)

quotient_long : (e : Expression) (w : ℕ) (g : Bool) → width e ≤ w → length (lift_quotient e w g) ≡ w
quotient_long e w g h =
    by_test (is_constant e)
    (λ k. rw k (length-map (value e w g (λ b. X)) only ∙ length_value e w g (λ b. X) h))
    (λ k. rw k (length-replicate w any_value))

binary_long : (op : BinaryOp) (w m n : ℕ) (g t : Bool) (b whole : Expression) (ss ts : List Set4) → width whole ≤ w → binary_length (way op) m n ≤ w → length ss ≡ left_width (way op) w m n → length ts ≡ right_width (way op) w m n
    → length (lift_operator (lift_of op) op w g t b (lift_quotient whole w g) ss ts) ≡ w
binary_long Divide w m n g t b whole ss ts q l h k = quotient_long whole w g q
binary_long Remainder w m n g t b whole ss ts q l h k = quotient_long whole w g q
binary_long Power w m n g t b whole ss ts q l h k = quotient_long whole w g q
binary_long ShiftLeft w m n g t b whole ss ts q l h k = let e = shift_long ShiftLeft t b ts ss in extend_long w g (lift_shift ShiftLeft t b ts ss) (omega (arith, e))
binary_long ShiftRight w m n g t b whole ss ts q l h k = let e = shift_long ShiftRight t b ts ss in extend_long w g (lift_shift ShiftRight t b ts ss) (omega (arith, e))
binary_long ShiftLeftArith w m n g t b whole ss ts q l h k = let e = shift_long ShiftLeftArith t b ts ss in extend_long w g (lift_shift ShiftLeftArith t b ts ss) (omega (arith, e))
binary_long ShiftRightArith w m n g t b whole ss ts q l h k = let e = shift_long ShiftRightArith t b ts ss in extend_long w g (lift_shift ShiftRightArith t b ts ss) (omega (arith, e))
binary_long Add w m n g t b whole ss ts q l h k = let e = length-replicate (length ss) (arithmetic (ss ++ ts)) in extend_long w g (lift_binary Add ss ts) (omega (arith, e))
binary_long Subtract w m n g t b whole ss ts q l h k = let e = length-replicate (length ss) (arithmetic (ss ++ ts)) in extend_long w g (lift_binary Subtract ss ts) (omega (arith, e))
binary_long Multiply w m n g t b whole ss ts q l h k = let e = length-replicate (length ss) (arithmetic (ss ++ ts)) in extend_long w g (lift_binary Multiply ss ts) (omega (arith, e))
binary_long BitAnd w m n g t b whole ss ts q l h k = let e = length_map2 (image2 and_bit) ss ts (h ∙ sym k) in extend_long w g (lift_binary BitAnd ss ts) (omega (arith, e))
binary_long BitOr w m n g t b whole ss ts q l h k = let e = length_map2 (image2 or_bit) ss ts (h ∙ sym k) in extend_long w g (lift_binary BitOr ss ts) (omega (arith, e))
binary_long BitXor w m n g t b whole ss ts q l h k = let e = length_map2 (image2 xor_bit) ss ts (h ∙ sym k) in extend_long w g (lift_binary BitXor ss ts) (omega (arith, e))
binary_long BitXnor w m n g t b whole ss ts q l h k = let e = length_map2 (image2 xnor_bit) ss ts (h ∙ sym k) in extend_long w g (lift_binary BitXnor ss ts) (omega (arith, e))
binary_long op w m n g t b whole ss ts q l h k = extend_long w g (lift_binary op ss ts) l

select_long : (source : Source) (part : Part) (index : Expression) (ts ss : List Set4) → length (set_select part index ts ss) ≡ part.width
select_long source part index ts ss =
    by_test (is_constant index)
    (λ e. rw e (length-map (places part (sign index) (constant_value index)) (at_place (only X) ss) ∙ length_places part (sign index) (constant_value index)))
    (λ e. rw e (length-replicate part.width _))

pub words_long : (k n : ℕ) (ss : List Set4) → length ss ≡ n * k → length (all_words k n ss) ≡ k
words_long k zero ss h = length-replicate k none
words_long k (suc n) ss h =
    let t = length-take k ss in
    let d = length-drop k ss in
    let rest : length (all_words k n (drop k ss)) ≡ k = words_long k n (drop k ss) (omega (arith, d)) in
    let first : length (take k ss) ≡ k = omega (arith, t) in
    length_map2 union (take k ss) (all_words k n (drop k ss)) (first ∙ sym rest) ∙ first

word_long : (signal : Signal) (index : Expression) (ts ss : List Set4) → length ss ≡ signal_length signal → length (set_word signal index ts ss) ≡ word_length signal
word_long signal index ts ss h =
    by_test (is_constant index)
    (λ e. rw e (length-map (word_places signal (sign index) (constant_value index)) (at_place (only X) ss) ∙ length_word signal (sign index) (constant_value index)))
    (λ e. rw e (length-map (all_words (word_length signal) (range_length (addresses signal)) ss) _ ∙ words_long (word_length signal) (range_length (addresses signal)) ss (h ∙ words_are signal)))

-- lifted sets are as many as the context's length, which is at least the expression's own
pub length_lifted : (e : Expression) (w : ℕ) (g : Bool) (f : Family) → width e ≤ w → length (lifted e w g f) ≡ w
length_lifted (Literal bits signed sized) w g f h = length-map (extend_literal w g sized bits) only ∙ length_extend _ w bits h
length_lifted (Name signal) w g f h =
    let e = length-map (bits_of_signal signal) f ∙ length_count signal.first (signal_length signal) in
    extend_long w g (map f (bits_of_signal signal)) (omega (arith, e))
length_lifted (Select source part index) w g f h =
    let e = select_long source part index (lifted index (width index) (sign index) f) (source_sets f source) in
    extend_long w g (set_select part index (lifted index (width index) (sign index) f) (source_sets f source)) (omega (arith, e))
length_lifted (Word signal index) w g f h =
    let l = length-map (bits_of_signal signal) f ∙ length_count signal.first (signal_length signal) in
    let e = word_long signal index (lifted index (width index) (sign index) f) (map f (bits_of_signal signal)) l in
    extend_long w g (set_word signal index (lifted index (width index) (sign index) f) (map f (bits_of_signal signal))) (omega (arith, e))
length_lifted (WordPart signal address part index) w g f h =
    let ss = set_word signal address (lifted address (width address) (sign address) f) (map f (bits_of_signal signal)) in
    let e = select_long (OfSignal signal) part index (lifted index (width index) (sign index) f) ss in
    extend_long w g (set_select part index (lifted index (width index) (sign index) f) ss) (omega (arith, e))
length_lifted (Unary op a) w g f h =
    let ss = lifted a (left_width (unary_way op) w (width a) 0) (left_sign (unary_way op) g (sign a) false) f in
    let e : length ss ≡ left_width (unary_way op) w (width a) 0 = length_lifted a (left_width (unary_way op) w (width a) 0) (left_sign (unary_way op) g (sign a) false) f (unary_fits op w (width a) h) in
    extend_long w g (lift_unary op ss) (unary_long op w (width a) ss e h)
length_lifted (Binary op a b) w g f h =
    binary_long op w (width a) (width b) g (left_sign (way op) g (sign a) (sign b)) b (Binary op a b)
    (lifted a (left_width (way op) w (width a) (width b)) (left_sign (way op) g (sign a) (sign b)) f)
    (lifted b (right_width (way op) w (width a) (width b)) (right_sign (way op) g (sign a) (sign b)) f) h h
    (length_lifted a (left_width (way op) w (width a) (width b)) (left_sign (way op) g (sign a) (sign b)) f (left_fits (way op) w (width a) (width b) h))
    (length_lifted b (right_width (way op) w (width a) (width b)) (right_sign (way op) g (sign a) (sign b)) f (right_fits (way op) w (width a) (width b) h))
length_lifted (Choice c p q) w g f h =
    let a : length (lifted p w g f) ≡ w = length_lifted p w g f (omega arith) in
    let b : length (lifted q w g f) ≡ w = length_lifted q w g f (omega arith) in
    length_map2 (λ s t. union (when (set_or (lifted c (width c) (sign c) f)).one? s) (union (when (set_or (lifted c (width c) (sign c) f)).zero? t) (when ((set_or (lifted c (width c) (sign c) f)).x? || (set_or (lifted c (width c) (sign c) f)).z?) (image2 merge_bit s t)))) (lifted p w g f) (lifted q w g f) (a ∙ sym b) ∙ a
length_lifted (Join high low) w g f h =
    let a = lifted high (width high) (sign high) f in
    let b = lifted low (width low) (sign low) f in
    let ea : length a ≡ width high = length_lifted high (width high) (sign high) f (omega arith) in
    let eb : length b ≡ width low = length_lifted low (width low) (sign low) f (omega arith) in
    let e = length-append b a in
    extend_long w g (b ++ a) (omega (arith, e))
length_lifted (Repeat count a) w g f h =
    let ss = lifted a (width a) (sign a) f in
    let e : length ss ≡ width a = length_lifted a (width a) (sign a) f (omega arith) in
    let r = length_repeat count ss ∙ ap (λ k. count * k) e in
    extend_long w g (repeat count ss) (omega (arith, r))
length_lifted (At place e) w g f h = length_lifted e w g f h
length_lifted (Call header statement arguments) w g f h =
    let after = lifted_body statement (argument_sets arguments header.inputs f (λ b. only X)) in
    let e = length-map (bits_of_signal header.result) after ∙ length_count header.result.first (signal_length header.result) in extend_long w g (map after (bits_of_signal header.result)) (omega (arith, e))

pub length_assigned_sets : (e : Expression) (n : ℕ) (f : Family) → length (assigned_sets e n f) ≡ n
length_assigned_sets e n f =
    let h = length_lifted e (max (width e) n) (sign e) f (omega arith) in
    length-take n (lifted e (max (width e) n) (sign e) f) ∙ omega (arith, h)

-- ---- reads

pub same_left : (xs ys : List ℕ) (f h : Family) → SameSets (xs ++ ys) f h → SameSets xs f h
same_left xs ys f h k b c = k b (contains-left xs ys b c)

pub same_right : (xs ys : List ℕ) (f h : Family) → SameSets (xs ++ ys) f h → SameSets ys f h
same_right xs ys f h k b c = k b (contains-right xs ys b c)

map_same : (bs : List ℕ) (f h : Family) → SameSets bs f h → map f bs ≡ map h bs
map_same [] f h k = refl
map_same (b ∷ bs) f h k =
    let head : f b ≡ h b = k b (contains_head b bs) in
    let rest : map f bs ≡ map h bs = map_same bs f h (λ c e. k c (or_right (c == b) (contains bs c) e)) in
    cc

-- one bit of a signal
nth_same : (f h : Family) (first n len k : ℕ) → k ≡ first + n → f k ≡ h k → get_or (map f (count_from first len)) n (only X) ≡ get_or (map h (count_from first len)) n (only X)
nth_same f h first n zero k e q = refl
nth_same f h first zero (suc len) k e q = subst (λ m. f m ≡ h m) (e ∙ add-zero first) q
nth_same f h first (suc n) (suc len) k e q = nth_same f h (suc first) n len k (omega arith) q

places_same : (f h : Family) (signal : Signal) (ps : List (Option ℕ)) → SameSets (somes (bits_at signal ps)) f h → map (at_place (only X) (map f (bits_of_signal signal))) ps ≡ map (at_place (only X) (map h (bits_of_signal signal))) ps
places_same f h signal [] k = refl
places_same f h signal (None ∷ ps) k = ap {B = List Set4} (λ r. only X ∷ r) (places_same f h signal ps k)
places_same f h signal (Some n ∷ ps) k =
    let head = nth_same f h signal.first n (signal_length signal) (signal.first + n) refl (k (signal.first + n) (contains_head (signal.first + n) (somes (bits_at signal ps)))) in
    let rest = places_same f h signal ps (λ b c. k b (or_right (b == (signal.first + n)) (contains (somes (bits_at signal ps)) b) c)) in
    cc

select_same : (f h : Family) (source : Source) (part : Part) (index : Expression) (ts us : List Set4) → ts ≡ us → SameSets (source_bits source part index) f h → set_select part index ts (source_sets f source) ≡ set_select part index us (source_sets h source)
select_same f h (OfConstant bits) part index ts us e k = ap {B = List Set4} (λ xs. set_select part index xs (map only bits)) e
select_same f h (OfSignal signal) part index ts us e k =
    by_test (is_constant index)
    (λ c. by_constant c (subst (λ (x : Bool). SameSets (if x then somes (bits_at signal (places part (sign index) (constant_value index))) else bits_of_signal signal) f h) c k))
    (λ c. ap {B = List Set4} (λ xs. set_select part index xs (map f (bits_of_signal signal))) e ∙ ap {B = List Set4} (λ xs. set_select part index us xs) (map_same (bits_of_signal signal) f h (subst (λ (x : Bool). SameSets (if x then somes (bits_at signal (places part (sign index) (constant_value index))) else bits_of_signal signal) f h) c k)))
  where
    by_constant : is_constant index ≡ true → SameSets (somes (bits_at signal (places part (sign index) (constant_value index)))) f h → set_select part index ts (map f (bits_of_signal signal)) ≡ set_select part index us (map h (bits_of_signal signal))
    by_constant c q = rw c (places_same f h signal (places part (sign index) (constant_value index)) q)

word_same : (f h : Family) (signal : Signal) (index : Expression) (ts us : List Set4) → ts ≡ us → SameSets (addressed_bits signal index) f h → set_word signal index ts (map f (bits_of_signal signal)) ≡ set_word signal index us (map h (bits_of_signal signal))
word_same f h signal index ts us e k =
    by_test (is_constant index)
    (λ c. rw c (places_same f h signal (word_places signal (sign index) (constant_value index)) (subst (λ xs. SameSets xs f h) (addressed_constant signal index c) k)))
    (λ c. ap {B = List Set4} (λ xs. set_word signal index xs (map f (bits_of_signal signal))) e ∙ ap {B = List Set4} (λ xs. set_word signal index us xs) (map_same (bits_of_signal signal) f h (subst (λ xs. SameSets xs f h) (addressed_variable signal index c) k)))

word_part_same : (f h : Family) (signal : Signal) (address : Expression) (part : Part) (index : Expression) (ts us vs ws : List Set4) → ts ≡ us → vs ≡ ws → SameSets (word_part_bits signal address part index) f h
    → set_select part index vs (set_word signal address ts (map f (bits_of_signal signal))) ≡ set_select part index ws (set_word signal address us (map h (bits_of_signal signal)))
word_part_same f h signal address part index ts us vs ws ea ei k =
    by_test (is_constant address && is_constant index)
    (λ c. let p = and_both (is_constant address) (is_constant index) c in rw (p.0, p.1) (by_constants (subst (λ xs. SameSets xs f h) (part_constant signal address part index c) k)))
    (λ c.
    ap {B = List Set4} (λ xs. set_select part index xs (set_word signal address ts (map f (bits_of_signal signal)))) ei
    ∙ ap {B = List Set4} (λ xs. set_select part index ws xs) (word_same f h signal address ts us ea (subst (λ xs. SameSets xs f h) (part_variable signal address part index c) k)))
  where
    of_word : List (Option ℕ)
    of_word = word_places signal (sign address) (constant_value address)

    of_part : List (Option ℕ)
    of_part = places part (sign index) (constant_value index)

    by_constants : SameSets (somes (bits_at signal (word_part_places signal (sign address) (constant_value address) part (sign index) (constant_value index)))) f h
        → map (at_place (only X) (map (at_place (only X) (map f (bits_of_signal signal))) of_word)) of_part ≡ map (at_place (only X) (map (at_place (only X) (map h (bits_of_signal signal))) of_word)) of_part
    by_constants q =
        twice (only X) (map f (bits_of_signal signal)) of_word of_part
        ∙ places_same f h signal (map (at_place None of_word) of_part) q
        ∙ sym (twice (only X) (map h (bits_of_signal signal)) of_word of_part)

mutual
  pub lifted_reads : (e : Expression) (w : ℕ) (g : Bool) (f h : Family) → SameSets (read_bits e) f h → lifted e w g f ≡ lifted e w g h
  lifted_reads (Literal bits signed sized) w g f h k = refl
  lifted_reads (Name signal) w g f h k = ap {B = List Set4} (extend_sets w g) (map_same (bits_of_signal signal) f h k)
  lifted_reads (Select source part index) w g f h k =
      ap {B = List Set4} (extend_sets w g)
      (select_same f h source part index (lifted index (width index) (sign index) f) (lifted index (width index) (sign index) h)
      (lifted_reads index (width index) (sign index) f h (same_right (source_bits source part index) (read_bits index) f h k)) (same_left (source_bits source part index) (read_bits index) f h k))
  lifted_reads (Word signal index) w g f h k =
      ap {B = List Set4} (extend_sets w g)
      (word_same f h signal index (lifted index (width index) (sign index) f) (lifted index (width index) (sign index) h)
      (lifted_reads index (width index) (sign index) f h (same_right (addressed_bits signal index) (read_bits index) f h k)) (same_left (addressed_bits signal index) (read_bits index) f h k))
  lifted_reads (WordPart signal address part index) w g f h k =
      let kr = same_right (word_part_bits signal address part index) (read_bits address ++ read_bits index) f h k in
      ap {B = List Set4} (extend_sets w g)
      (word_part_same f h signal address part index (lifted address (width address) (sign address) f) (lifted address (width address) (sign address) h) (lifted index (width index) (sign index) f) (lifted index (width index) (sign index) h)
      (lifted_reads address (width address) (sign address) f h (same_left (read_bits address) (read_bits index) f h kr))
      (lifted_reads index (width index) (sign index) f h (same_right (read_bits address) (read_bits index) f h kr))
      (same_left (word_part_bits signal address part index) (read_bits address ++ read_bits index) f h k))
  lifted_reads (Unary op a) w g f h k = ap {B = List Set4} (λ ss. extend_sets w g (lift_unary op ss)) (lifted_reads a (left_width (unary_way op) w (width a) 0) (left_sign (unary_way op) g (sign a) false) f h k)
  lifted_reads (Binary op a b) w g f h k =
      let ha = lifted_reads a (left_width (way op) w (width a) (width b)) (left_sign (way op) g (sign a) (sign b)) f h (same_left (read_bits a) (read_bits b) f h k) in
      let hb = lifted_reads b (right_width (way op) w (width a) (width b)) (right_sign (way op) g (sign a) (sign b)) f h (same_right (read_bits a) (read_bits b) f h k) in
      ap {B = List Set4} (λ ss. lift_operator (lift_of op) op w g (left_sign (way op) g (sign a) (sign b)) b (lift_quotient (Binary op a b) w g) ss (lifted b (right_width (way op) w (width a) (width b)) (right_sign (way op) g (sign a) (sign b)) f)) ha
      ∙ ap {B = List Set4} (λ ts. lift_operator (lift_of op) op w g (left_sign (way op) g (sign a) (sign b)) b (lift_quotient (Binary op a b) w g) (lifted a (left_width (way op) w (width a) (width b)) (left_sign (way op) g (sign a) (sign b)) h) ts) hb
  lifted_reads (Choice c p q) w g f h k =
      let hc = lifted_reads c (width c) (sign c) f h (same_left (read_bits c) (read_bits p ++ read_bits q) f h k) in
      let k' = same_right (read_bits c) (read_bits p ++ read_bits q) f h k in
      let hp = lifted_reads p w g f h (same_left (read_bits p) (read_bits q) f h k') in
      let hq = lifted_reads q w g f h (same_right (read_bits p) (read_bits q) f h k') in
      ap {B = List Set4} (λ ss. set_choose (set_or ss) (lifted p w g f) (lifted q w g f)) hc
      ∙ ap {B = List Set4} (λ ss. set_choose (set_or (lifted c (width c) (sign c) h)) ss (lifted q w g f)) hp
      ∙ ap {B = List Set4} (λ ss. set_choose (set_or (lifted c (width c) (sign c) h)) (lifted p w g h) ss) hq
  lifted_reads (Join high low) w g f h k =
      let ha = lifted_reads high (width high) (sign high) f h (same_left (read_bits high) (read_bits low) f h k) in
      let hb = lifted_reads low (width low) (sign low) f h (same_right (read_bits high) (read_bits low) f h k) in
      ap {B = List Set4} (λ ss. extend_sets w g (join ss (lifted low (width low) (sign low) f))) ha
      ∙ ap {B = List Set4} (λ ss. extend_sets w g (join (lifted high (width high) (sign high) h) ss)) hb
  lifted_reads (Repeat count a) w g f h k = ap {B = List Set4} (λ ss. extend_sets w g (repeat count ss)) (lifted_reads a (width a) (sign a) f h k)
  lifted_reads (At place e) w g f h k = lifted_reads e w g f h k
  lifted_reads (Call header statement arguments) w g f h k = ap {B = List Set4} (λ (begin : Family). extend_sets w g (map (lifted_body statement begin) (bits_of_signal header.result))) (arguments_same arguments header.inputs f h (λ b. only X) k)

  -- what a function begins with
  pub arguments_same : (es : Items) (inputs : List Signal) (f h begin : Family) → SameSets (items_reads es) f h → argument_sets es inputs f begin ≡ argument_sets es inputs h begin
  arguments_same NoItem inputs f h begin k = refl
  arguments_same (Item e es) [] f h begin k = refl
  arguments_same (Item e es) (input ∷ inputs) f h begin k =
      ap {B = Family} (λ ss. argument_sets es inputs f (put_each (map Some (bits_of_signal input)) (cut (signal_length input) ss) begin)) (lifted_reads e (max (width e) (signal_length input)) (sign e) f h (same_left (read_bits e) (items_reads es) f h k))
      ∙ arguments_same es inputs f h (put_each (map Some (bits_of_signal input)) (cut (signal_length input) (lifted e (max (width e) (signal_length input)) (sign e) h)) begin) (same_right (read_bits e) (items_reads es) f h k)

-- the sets of the items of a case
pub items_same : (es : Items) (w : ℕ) (g : Bool) (f h : Family) → SameSets (items_reads es) f h → lifted_items es w g f ≡ lifted_items es w g h
items_same NoItem w g f h k = refl
items_same (Item e es) w g f h k =
    ap {B = List (List Set4)} (λ ss. ss ∷ lifted_items es w g f) (lifted_reads e w g f h (same_left (read_bits e) (items_reads es) f h k))
    ∙ ap {B = List (List Set4)} (λ ts. lifted e w g h ∷ ts) (items_same es w g f h (same_right (read_bits e) (items_reads es) f h k))

pub assigned_sets_reads : (e : Expression) (n : ℕ) (f h : Family) → SameSets (read_bits e) f h → assigned_sets e n f ≡ assigned_sets e n h
assigned_sets_reads e n f h k = ap {B = List Set4} (cut n) (lifted_reads e (max (width e) n) (sign e) f h k)
