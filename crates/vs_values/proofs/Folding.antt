-- Values of constants' slots alone, which need no call.
use Rattle.std.proofs.Common.{◌≡◌, ℕ, zero, suc, ◌+◌, ◌*◌, ◌<◌, Bool, true, false, ◌&&◌, if◌then◌else◌, List, [], ◌∷◌, ◌++◌, map, length, get_or, replicate, take, drop, None, Some, Option, sym, ap, ◌∙◌, refl, arith, true≢false}
use Rattle.std.specs.List.{All}
use Rattle.std.proofs.lemmas.List.{map-append, length-map}
use Rattle.std.proofs.lemmas.List.Elements.{All-head, All-tail}
use Rattle.vs_four.specs.declared.Bit4.{Bit4}
use Rattle.vs_four.specs.declared.Bit4.TheVariants.{Zero, X}
use Rattle.vs_four.specs.Logic.{BitList, all_known}
use Rattle.vs_four.specs.Lengths.{last_or}
use Rattle.vs_four.specs.Numbers.{if_known}
use Rattle.vs_four.specs.Shifts.{move_up, move_down, distance, shift_left}
use Rattle.vs_four.specs.Selects.{Part, range_length, at_place, places, select}
use Rattle.vs_base.specs.Applied.{HasLengths}
use Rattle.vs_design.specs.Expressions.{Way, InContext, Own, Compared, Shifted, Raised, OfSignal, OfConstant, BinaryOp, ShiftLeft, ShiftRight, ShiftLeftArith, ShiftRightArith, Expression, Literal, Name, Select, Word, WordPart, Unary, Binary, Choice, Join, Repeat, At, Call, way, unary_way, width, is_constant}
use Rattle.vs_design.specs.Values.{apply_binary, left_width, right_width}
use Rattle.vs_design.specs.Sizes.{weight, is_shift, unary_weight, binary_weight}
use Rattle.vs_code.specs.Calls.{State}
use Rattle.vs_program.specs.Lowered.{HasConstants}
use Rattle.vs_values.specs.Added.{vectors}
use Rattle.vs_values.specs.Constants.{AreConstant, constant_bit, constant_bits, shifted_slots, selected_slots}

-- ---- constants' slots hold their constants

bit_is : (slots : State) (s : ℕ) → HasConstants slots → s < 4 → slots s ≡ constant_bit s
bit_is slots zero h l = h.zero
bit_is slots (suc zero) h l = h.one
bit_is slots (suc (suc zero)) h l = h.x
bit_is slots (suc (suc (suc zero))) h l = h.z
bit_is slots (suc (suc (suc (suc n)))) h l = absurd (omega arith)

pub bits_are : (slots : State) (to : List ℕ) → HasConstants slots → AreConstant to → map slots to ≡ constant_bits to
bits_are slots [] h c = refl
bits_are slots (s ∷ to) h c =
    ap (λ b. b ∷ map slots to) (bit_is slots s h (All-head (λ slot. slot < 4) s to c)) ∙ ap (λ bs. constant_bit s ∷ bs) (bits_are slots to h (All-tail (λ slot. slot < 4) s to c))

pub vectors_are : (slots : State) (tos : List (List ℕ)) → HasConstants slots → All AreConstant tos → vectors slots tos ≡ map constant_bits tos
vectors_are slots [] h c = refl
vectors_are slots (to ∷ tos) h c =
    ap (λ b. b ∷ vectors slots tos) (bits_are slots to h (All-head AreConstant to tos c)) ∙ ap (λ bs. constant_bits to ∷ bs) (vectors_are slots tos h (All-tail AreConstant to tos c))

-- a constant expression weighs nothing
pub constant_weight : (e : Expression) (w : ℕ) → is_constant e ≡ true → weight e w ≡ 0
constant_weight (Literal bits signed sized) w h = refl
constant_weight (Name signal) w h = refl
constant_weight (Select (OfSignal signal) part index) w h = absurd (true≢false (sym h))
constant_weight (Select (OfConstant bits) part index) w h = ap (λ (c : Bool). if c then 0 else (part.width * (range_length part.range * width index) + weight index (width index))) h
constant_weight (Unary op a) w h = ap (λ (c : Bool). if c then 0 else (unary_weight op w (width a) + weight a (left_width (unary_way op) w (width a) 0))) h
constant_weight (Binary op a b) w h =
    let p = both_true (is_constant a) (is_constant b) h in
    let x = constant_weight a (left_width (way op) w (width a) (width b)) p.0 in
    let y = constant_weight b (right_width (way op) w (width a) (width b)) p.1 in
    let first = ap (λ (c : Bool). if c then 0 else (if is_shift (way op) && is_constant b then 0 else binary_weight op w (width a) (width b))) h in
    omega (arith, x, y, first)
  where
    both_true : (a b : Bool) → (a && b) ≡ true → (a ≡ true) × (b ≡ true)
    both_true true b h = (refl, h)
    both_true false b h = absurd (true≢false (sym h))
constant_weight (Choice c p q) w h =
    let cpq = three_true (is_constant c) (is_constant p) (is_constant q) h in
    let first = ap (λ (k : Bool). if k then 0 else (w + width c)) h in
    omega (arith, constant_weight c (width c) cpq.0, constant_weight p w cpq.1, constant_weight q w cpq.2, first)
  where
    three_true : (a b c : Bool) → (a && b && c) ≡ true → (a ≡ true) × (b ≡ true) × (c ≡ true)
    three_true true true true h = (refl, refl, refl)
    three_true true true false h = absurd (true≢false (sym h))
    three_true true false c h = absurd (true≢false (sym h))
    three_true false b c h = absurd (true≢false (sym h))
constant_weight (Join high low) w h =
    let p = both_true (is_constant high) (is_constant low) h in
    omega (arith, constant_weight high (width high) p.0, constant_weight low (width low) p.1)
  where
    both_true : (a b : Bool) → (a && b) ≡ true → (a ≡ true) × (b ≡ true)
    both_true true b h = (refl, h)
    both_true false b h = absurd (true≢false (sym h))
constant_weight (Repeat count a) w h = constant_weight a (width a) h
constant_weight (Word signal index) w h = cc
constant_weight (WordPart signal address part index) w h = cc
constant_weight (At place e) w h = constant_weight e w h
constant_weight (Call header statement arguments) w h = cc

-- ---- shifts by a constant amount

map_replicate : {A B : Type 0} (f : A → B) (n : ℕ) (x : A) → map f (replicate n x) ≡ replicate n (f x)
map_replicate f zero x = refl
map_replicate f (suc n) x = ap (λ ys. f x ∷ ys) (map_replicate f n x)

map_take : {A B : Type 0} (f : A → B) (n : ℕ) (xs : List A) → map f (take n xs) ≡ take n (map f xs)
map_take f zero xs = refl
map_take f (suc n) [] = refl
map_take f (suc n) (x ∷ xs) = ap (λ ys. f x ∷ ys) (map_take f n xs)

map_drop : {A B : Type 0} (f : A → B) (n : ℕ) (xs : List A) → map f (drop n xs) ≡ drop n (map f xs)
map_drop f zero xs = refl
map_drop f (suc n) [] = refl
map_drop f (suc n) (x ∷ xs) = map_drop f n xs

map_last : {A B : Type 0} (f : A → B) (d : A) (xs : List A) → f (last_or d xs) ≡ last_or (f d) (map f xs)
map_last f d [] = refl
map_last f d (x ∷ xs) = map_last f x xs

moved_up : {A B : Type 0} (f : A → B) (fill : A) (n : ℕ) (xs : List A) → map f (move_up fill n xs) ≡ move_up (f fill) n (map f xs)
moved_up f fill n xs =
    map_take f (length xs) (replicate n fill ++ xs)
    ∙ ap (take (length xs)) (map-append f (replicate n fill) xs ∙ ap (λ ys. ys ++ map f xs) (map_replicate f n fill))
    ∙ ap (λ k. take k (replicate n (f fill) ++ map f xs)) (sym (length-map xs f))

moved_down : {A B : Type 0} (f : A → B) (fill : A) (n : ℕ) (xs : List A) → map f (move_down fill n xs) ≡ move_down (f fill) n (map f xs)
moved_down f fill n xs =
    map_take f (length xs) (drop n xs ++ replicate (length xs) fill)
    ∙ ap (take (length xs)) (map-append f (drop n xs) (replicate (length xs) fill) ∙ ap (λ ys. ys ++ map f (replicate (length xs) fill)) (map_drop f n xs) ∙ ap (λ ys. drop n (map f xs) ++ ys) (map_replicate f (length xs) fill))
    ∙ ap (λ k. take k (drop n (map f xs) ++ replicate k (f fill))) (sym (length-map xs f))

-- either way of an amount
by_known : (slots : State) (k : Bool) (to : List ℕ) (v : BitList) (moved : List ℕ) (value : BitList) → HasConstants slots → map slots moved ≡ value → length v ≡ length to
    → map slots (if k then moved else replicate (length to) 2) ≡ if_known k (length v) value
by_known slots true to v moved value h e l = e
by_known slots false to v moved value h e l = map_replicate slots (length to) 2 ∙ ap (λ b. replicate (length to) b) h.x ∙ ap (λ n. replicate n X) (sym l)

shift_fill : (slots : State) (to : List ℕ) (signed : Bool) → HasConstants slots → slots (if signed then last_or 0 to else 0) ≡ (if signed then last_or Zero (map slots to) else Zero)
shift_fill slots to true h = map_last slots 0 to ∙ ap (λ d. last_or d (map slots to)) h.zero
shift_fill slots to false h = h.zero

left : (slots : State) (to : List ℕ) (amount : BitList) → HasConstants slots
    → map slots (if all_known amount then move_up 0 (distance (length to) amount) to else replicate (length to) 2) ≡ shift_left (map slots to) amount
left slots to amount h =
    let long : length (map slots to) ≡ length to = length-map to slots in
    by_known slots (all_known amount) to (map slots to) (move_up 0 (distance (length to) amount) to) (move_up Zero (distance (length (map slots to)) amount) (map slots to)) h
    (moved_up slots 0 (distance (length to) amount) to ∙ ap (λ b. move_up b (distance (length to) amount) (map slots to)) h.zero ∙ ap (λ n. move_up Zero (distance n amount) (map slots to)) (sym long))
    long

down : (slots : State) (to : List ℕ) (amount : BitList) (fill : ℕ) (bit : Bit4) → HasConstants slots → slots fill ≡ bit
    → map slots (if all_known amount then move_down fill (distance (length to) amount) to else replicate (length to) 2) ≡ if_known (all_known amount) (length (map slots to)) (move_down bit (distance (length (map slots to)) amount) (map slots to))
down slots to amount fill bit h e =
    let long : length (map slots to) ≡ length to = length-map to slots in
    by_known slots (all_known amount) to (map slots to) (move_down fill (distance (length to) amount) to) (move_down bit (distance (length (map slots to)) amount) (map slots to)) h
    (moved_down slots fill (distance (length to) amount) to ∙ ap (λ b. move_down b (distance (length to) amount) (map slots to)) e ∙ ap (λ n. move_down bit (distance n amount) (map slots to)) (sym long))
    long

pub shifted_are : (op : BinaryOp) (signed other : Bool) (slots : State) (to : List ℕ) (amount : BitList) → is_shift (way op) ≡ true → HasConstants slots
    → map slots (shifted_slots op signed to amount) ≡ apply_binary op signed other (map slots to) amount
shifted_are ShiftLeft signed other slots to amount s h = left slots to amount h
shifted_are ShiftLeftArith signed other slots to amount s h = left slots to amount h
shifted_are ShiftRight signed other slots to amount s h = down slots to amount 0 Zero h h.zero
shifted_are ShiftRightArith true other slots to amount s h = down slots to amount (last_or 0 to) (last_or Zero (map slots to)) h (shift_fill slots to true h)
shifted_are ShiftRightArith false other slots to amount s h = down slots to amount 0 Zero h h.zero
shifted_are _ signed other slots to amount s h = absurd (true≢false (sym s))

-- ---- selects by a constant index

place_is : (slots : State) (from : List ℕ) (p : Option ℕ) → HasConstants slots → slots (at_place 2 from p) ≡ at_place X (map slots from) p
place_is slots from None h = h.x
place_is slots from (Some n) h = at slots from n h
  where
    at : (slots : State) (from : List ℕ) (n : ℕ) → HasConstants slots → slots (get_or from n 2) ≡ get_or (map slots from) n X
    at slots [] n h = h.x
    at slots (s ∷ from) zero h = refl
    at slots (s ∷ from) (suc n) h = at slots from n h

pub places_are : (slots : State) (from : List ℕ) (ps : List (Option ℕ)) → HasConstants slots → map slots (map (at_place 2 from) ps) ≡ map (at_place X (map slots from)) ps
places_are slots from [] h = refl
places_are slots from (p ∷ ps) h =
    ap (λ b. b ∷ map slots (map (at_place 2 from) ps)) (place_is slots from p h) ∙ ap (λ bs. at_place X (map slots from) p ∷ bs) (places_are slots from ps h)

pub selected_are : (part : Part) (signed : Bool) (slots : State) (from : List ℕ) (index : BitList) → HasConstants slots
    → map slots (selected_slots part signed from index) ≡ select part signed (map slots from) index
selected_are part signed slots from index h = places_are slots from (places part signed index) h

-- an operator's operands have the lengths that it asks for
pub has_lengths : (op : BinaryOp) (a b : BitList) → (way op ≡ InContext → length a ≡ length b) → (way op ≡ Compared → length a ≡ length b) → HasLengths op a b
has_lengths op a b alike compared = of (way op) alike compared
  where
    of : (w : Way) → (w ≡ InContext → length a ≡ length b) → (w ≡ Compared → length a ≡ length b) → elim w as (λ x. Type 0) [ InContext ↦ length a ≡ length b | Own ↦ Unit {0} | Compared ↦ length a ≡ length b | Shifted ↦ Unit {0} | Raised ↦ Unit {0} ]
    of InContext f g = f refl
    of Own f g = tt
    of Compared f g = g refl
    of Shifted f g = tt
    of Raised f g = tt
