-- An operator of two operands that were lowered.
use Rattle.std.proofs.Common.{◌≡◌, ℕ, ◌-◌, ◌<◌, ◌≤◌, Bool, true, false, List, [], ◌∷◌, ◌++◌, map, length, replicate, sym, ap, ◌∙◌, subst, subst₂, refl, arith, append-nil, length-append, true≢false, drop, if◌then◌else◌, inl, length-take, Result, Ok, Err, IfOk, OnOk}
use Rattle.std.proofs.lemmas.List.{length-replicate}
use Rattle.std.proofs.lemmas.List.Elements.{All-take, All-drop, All-append, All-replicate, All-head, All-tail, All-weaker}
use Rattle.std.specs.List.{All, range_with_len}
use Rattle.vs_four.specs.Logic.{BitList, all_known}
use Rattle.vs_four.specs.Shifts.{move_up, move_down, distance}
use Rattle.vs_four.specs.Lengths.{last_or, extend_with}
use Rattle.vs_four.specs.declared.Bit4.{Bit4}
use Rattle.vs_four.specs.declared.Bit4.TheVariants.{X}
use Rattle.vs_net.specs.Network as N
use Rattle.vs_design.specs.Expressions.{BinaryOp, ShiftLeft, ShiftRight, ShiftLeftArith, ShiftRightArith, is_constant, Expression, Literal, Binary, Way, InContext, Own, Compared, Shifted, Raised, way, binary_length, width, sign}
use Rattle.vs_design.specs.Sizes.{is_shift}
use Rattle.vs_design.specs.Footprints.{read_bits}
use Rattle.vs_design.specs.TreeLaws.{ValueLength}
use Rattle.vs_design.specs.Values.{value, left_width, right_width, left_sign, right_sign, apply_binary}
use Rattle.vs_code.specs.Calls.{Call}
use Rattle.vs_values.specs.Constants.{constant_slots, constant_bits, constant_bit, extended_slots, shifted_slots, AreConstant}
use Rattle.vs_values.specs.Choices.{binary_kernel, result_of_way}
use Rattle.vs_values.specs.Coded.{Coding, with_call}
use Rattle.vs_values.specs.Ready.{IsReady}
use Rattle.vs_values.specs.Valued.{IsSource, AddsValue}
use Rattle.vs_values.proofs.Folding.{bits_are, shifted_are}
use Rattle.vs_values.proofs.Values.{both_true, in_left, wider}
use Rattle.vs_values.proofs.Readying.{fit_binary, left_within, right_within, CanCall, called_fits, adds_called, adds_moved, adds_folded}
use Rattle.std.proofs.lemmas.List.{length-map}

-- ---- the lengths of values of operators

pub same_length : (a : BitList) (fill : Bit4) (w : ℕ) → length a ≡ w → extend_with fill w a ≡ a
same_length a fill w h = let z : w - length a ≡ 0 = omega arith in ap (λ n. a ++ replicate n fill) z ∙ append-nil a

left_same : (y : Way) (w m n p q : ℕ) → p ≡ left_width y w m n → q ≡ right_width y w m n → left_width y w p q ≡ p
left_same InContext w m n p q h k = sym h
left_same Own w m n p q h k = refl
left_same Compared w m n p q h k = omega arith
left_same Shifted w m n p q h k = sym h
left_same Raised w m n p q h k = sym h

right_same : (y : Way) (w m n p q : ℕ) → p ≡ left_width y w m n → q ≡ right_width y w m n → right_width y w p q ≡ q
right_same InContext w m n p q h k = sym k
right_same Own w m n p q h k = refl
right_same Compared w m n p q h k = omega arith
right_same Shifted w m n p q h k = refl
right_same Raised w m n p q h k = refl

still_wide : (y : Way) (w m n p q : ℕ) → binary_length y m n ≤ w → p ≡ left_width y w m n → q ≡ right_width y w m n → binary_length y p q ≤ w
still_wide InContext w m n p q l h k = omega arith
still_wide Own w m n p q l h k = l
still_wide Compared w m n p q l h k = l
still_wide Shifted w m n p q l h k = omega arith
still_wide Raised w m n p q l h k = omega arith

pub long_is : (a : BitList) (fill : Bit4) (w : ℕ) → length (extend_with fill w a) ≡ w → length a ≤ w
long_is a fill w h = omega (arith, length-append a (replicate (w - length a) fill))

pub apply_length : ValueLength → (op : BinaryOp) (g s u : Bool) (w m n : ℕ) (x y : BitList) → binary_length (way op) m n ≤ w
    → length x ≡ left_width (way op) w m n → length y ≡ right_width (way op) w m n → length (apply_binary op (left_sign (way op) g s u) (right_sign (way op) g s u) x y) ≤ w
apply_length law op g s u w m n x y l h k =
    let a = Literal x s true in
    let b = Literal y u true in
    let state : N.State = λ bit. X in
    let ls = left_sign (way op) g s u in
    let rs = right_sign (way op) g s u in
    let lw = left_same (way op) w m n (length x) (length y) h k in
    let rw = right_same (way op) w m n (length x) (length y) h k in
    let is_a : value a (left_width (way op) w (length x) (length y)) ls state ≡ x = same_length x _ (left_width (way op) w (length x) (length y)) (sym lw) in
    let is_b : value b (right_width (way op) w (length x) (length y)) rs state ≡ y = same_length y _ (right_width (way op) w (length x) (length y)) (sym rw) in
    let long = law (Binary op a b) w g state (still_wide (way op) w m n (length x) (length y) l h k) in
    let inner = long_is (apply_binary op ls rs (value a (left_width (way op) w (length x) (length y)) ls state) (value b (right_width (way op) w (length x) (length y)) rs state)) _ w long in
    subst (λ (v : BitList). length (apply_binary op ls rs x v) ≤ w) is_b
    (subst (λ (v : BitList). length (apply_binary op ls rs v (value b (right_width (way op) w (length x) (length y)) rs state)) ≤ w) is_a inner)

-- ---- both operands

pub record Operands (env : List ℕ) (code code1 code2 : Coding) (op : BinaryOp) (a b : Expression) (w : ℕ) (s ls : Bool) (ta tb : List ℕ) : Type 0 where
  pub ready : IsReady env code (Binary op a b) w
  pub left : AddsValue env code.calls code.next code1.calls code1.next a (left_width (way op) w (width a) (width b)) (left_sign (way op) s (sign a) (sign b)) ta
  pub right : AddsValue env code1.calls code1.next code2.calls code2.next b (right_width (way op) w (width a) (width b)) (right_sign (way op) s (sign a) (sign b)) tb
  pub sign_is : ls ≡ left_sign (way op) s (sign a) (sign b)

-- a context as the code has it is that of the definition
pub context_is : {A : Type 0} (f : ℕ → ℕ → A) (x : A) (m n p q : ℕ) → x ≡ f m n → m ≡ p → n ≡ q → x ≡ f p q
context_is f x m n p q e h k = e ∙ ap (λ (y : ℕ). f y n) h ∙ ap (f p) k

pub sign_context : (f : Bool → Bool → Bool) (x : Bool) (m n p q : Bool) → x ≡ f m n → m ≡ p → n ≡ q → x ≡ f p q
sign_context f x m n p q e h k = e ∙ ap (λ (y : Bool). f y n) h ∙ ap (f p) k

pub adds_at : (env : List ℕ) (old : List Call) (mark : ℕ) (new : List Call) (next : ℕ) (e : Expression) (w w' : ℕ) (s s' : Bool) (to : List ℕ) → w ≡ w' → s ≡ s'
    → AddsValue env old mark new next e w s to → AddsValue env old mark new next e w' s' to
adds_at env old mark new next e w w' s s' to h k v = subst₂ (λ x y. AddsValue env old mark new next e x y to) h k v

pub ready_at : (env : List ℕ) (code : Coding) (e : Expression) (w w' : ℕ) → w' ≡ w → IsReady env code e w → IsReady env code e w'
ready_at env code e w w' h r = subst (λ x. IsReady env code e x) (sym h) r

-- ---- what comes of them

pub record AreShort (a b : List ℕ) : Type 0 where
  pub some : 1 ≤ length a
  pub most : length a ≤ 64
  pub some_b : 1 ≤ length b
  pub most_b : length b ≤ 64

pub short_is : (env : List ℕ) (code code1 code2 : Coding) (op : BinaryOp) (a b : Expression) (w : ℕ) (s ls : Bool) (ta tb : List ℕ) → Operands env code code1 code2 op a b w s ls ta tb → AreShort ta tb
short_is env code code1 code2 op a b w s ls ta tb o =
    let f = fit_binary op a b o.ready.fit in
    let l = left_within (way op) w (width a) (width b) o.ready.wide o.ready.at_most_64 f.left_long.1 f.right_long.1 in
    let r = right_within (way op) w (width a) (width b) o.ready.wide o.ready.at_most_64 f.left_long.1 f.right_long.1 in
    record {
      some = omega (arith, l.0, f.left_long.0, o.left.value.length);
      most = omega (arith, l.1, o.left.value.length);
      some_b = omega (arith, r.0, f.right_long.0, o.right.value.length);
      most_b = omega (arith, r.1, o.right.value.length);
    }

pub returns_folded : ValueLength → (env : List ℕ) (code code1 code2 : Coding) (op : BinaryOp) (a b : Expression) (w : ℕ) (s ls rs : Bool) (ta tb to : List ℕ) → Operands env code code1 code2 op a b w s ls ta tb
    → rs ≡ right_sign (way op) s (sign a) (sign b)
    → AreConstant ta → AreConstant tb → to ≡ extended_slots w s (constant_slots (apply_binary op ls rs (constant_bits ta) (constant_bits tb)))
    → AddsValue env code.calls code.next code2.calls code2.next (Binary op a b) w s to
returns_folded law env code code1 code2 op a b w s ls rs ta tb to o other ca cb is =
    adds_folded env code code1 code2 op a b w s ta tb to o.ready o.left o.right ca cb
    (apply_length law op s (sign a) (sign b) w (width a) (width b) (constant_bits ta) (constant_bits tb) o.ready.wide (length-map ta constant_bit ∙ o.left.value.length) (length-map tb constant_bit ∙ o.right.value.length))
    (is ∙ ap (λ (x : Bool). extended_slots w s (constant_slots (apply_binary op x rs (constant_bits ta) (constant_bits tb)))) o.sign_is
    ∙ ap (λ (x : Bool). extended_slots w s (constant_slots (apply_binary op (left_sign (way op) s (sign a) (sign b)) x (constant_bits ta) (constant_bits tb)))) other)

pub call_is : (env : List ℕ) (code code1 code2 : Coding) (op : BinaryOp) (a b : Expression) (w : ℕ) (s ls : Bool) (ta tb : List ℕ) → Operands env code code1 code2 op a b w s ls ta tb
    → (AreConstant ta → AreConstant tb → ⊥) → (is_shift (way op) ≡ true → AreConstant tb → ⊥) → CanCall code2 op w ls ta tb
call_is env code code1 code2 op a b w s ls ta tb o f g =
    subst (λ (x : Bool). CanCall code2 op w x ta tb) (sym o.sign_is) (called_fits env code code1 code2 op a b w s ta tb o.ready o.left o.right f g)

pub returns_called : (env : List ℕ) (code code1 code2 code3 : Coding) (op : BinaryOp) (a b : Expression) (w : ℕ) (s ls : Bool) (ta tb to : List ℕ) → Operands env code code1 code2 op a b w s ls ta tb
    → (AreConstant ta → AreConstant tb → ⊥) → (is_shift (way op) ≡ true → AreConstant tb → ⊥)
    → code3 ≡ with_call code2 (binary_kernel op ls) (ta ∷ tb ∷ []) (result_of_way (way op) w)
    → to ≡ extended_slots w s (range_with_len code2.next (result_of_way (way op) w))
    → AddsValue env code.calls code.next code3.calls code3.next (Binary op a b) w s to
returns_called env code code1 code2 code3 op a b w s ls ta tb to o f g is to_is =
    adds_called env code code1 code2 code3 op a b w s ta tb to o.ready o.left o.right f g
    (is ∙ ap (λ (x : Bool). with_call code2 (binary_kernel op x) (ta ∷ tb ∷ []) (result_of_way (way op) w)) o.sign_is) to_is

pub operands_of : (env : List ℕ) (code code1 code2 : Coding) (op : BinaryOp) (a b : Expression) (w : ℕ) (s : Bool) (lw : ℕ) (ls : Bool) (rw' : ℕ) (rs : Bool) (m n : ℕ) (t u : Bool) (ta tb : List ℕ)
    → lw ≡ left_width (way op) w m n → ls ≡ left_sign (way op) s t u → rw' ≡ right_width (way op) w m n → rs ≡ right_sign (way op) s t u
    → m ≡ width a → n ≡ width b → t ≡ sign a → u ≡ sign b
    → IsReady env code (Binary op a b) w
    → AddsValue env code.calls code.next code1.calls code1.next a lw ls ta
    → AddsValue env code1.calls code1.next code2.calls code2.next b rw' rs tb
    → Operands env code code1 code2 op a b w s ls ta tb
operands_of env code code1 code2 op a b w s lw ls rw' rs m n t u ta tb e f g h i j k l ready va vb =
    let sign_left = sign_context (left_sign (way op) s) ls t u (sign a) (sign b) f k l in
    record {
      ready = ready;
      left = adds_at env code.calls code.next code1.calls code1.next a lw (left_width (way op) w (width a) (width b)) ls (left_sign (way op) s (sign a) (sign b)) ta
          (context_is (left_width (way op) w) lw m n (width a) (width b) e i j) sign_left va;
      right = adds_at env code1.calls code1.next code2.calls code2.next b rw' (right_width (way op) w (width a) (width b)) rs (right_sign (way op) s (sign a) (sign b)) tb
          (context_is (right_width (way op) w) rw' m n (width a) (width b) g i j) (sign_context (right_sign (way op) s) rs t u (sign a) (sign b) h k l) vb;
      sign_is = sign_left;
    }

-- ---- a shift by constants' slots

by_known : (P : List ℕ → Type 0) (k : Bool) (x y : List ℕ) → P x → P y → P (if k then x else y)
by_known P true x y f g = f
by_known P false x y f g = g

up_all : (P : ℕ → Type 0) (n : ℕ) (to : List ℕ) → P 0 → All P to → All P (move_up 0 n to)
up_all P n to z h = All-take P (length to) (replicate n 0 ++ to) (All-append P (replicate n 0) to (All-replicate P n 0 z) h)

down_all : (P : ℕ → Type 0) (fill n : ℕ) (to : List ℕ) → P fill → All P to → All P (move_down fill n to)
down_all P fill n to z h = All-take P (length to) (drop n to ++ replicate (length to) fill) (All-append P (drop n to) (replicate (length to) fill) (All-drop P n to h) (All-replicate P (length to) fill z))

fill_all : (P : ℕ → Type 0) (to : List ℕ) (d : ℕ) → P d → All P to → P (last_or d to)
fill_all P [] d z h = z
fill_all P (x ∷ xs) d z h = fill_all P xs x (All-head P x xs h) (All-tail P x xs h)

pub shifted_all : (P : ℕ → Type 0) (op : BinaryOp) (s : Bool) (to : List ℕ) (amount : BitList) → is_shift (way op) ≡ true → P 0 → P 2 → All P to → All P (shifted_slots op s to amount)
shifted_all P ShiftRight s to amount q z x h = by_known (All P) (all_known amount) _ _ (down_all P 0 (distance (length to) amount) to z h) (All-replicate P (length to) 2 x)
shifted_all P ShiftRightArith true to amount q z x h = by_known (All P) (all_known amount) _ _ (down_all P (last_or 0 to) (distance (length to) amount) to (fill_all P to 0 z h) h) (All-replicate P (length to) 2 x)
shifted_all P ShiftRightArith false to amount q z x h = by_known (All P) (all_known amount) _ _ (down_all P 0 (distance (length to) amount) to z h) (All-replicate P (length to) 2 x)
shifted_all P ShiftLeft s to amount q z x h = by_known (All P) (all_known amount) _ _ (up_all P (distance (length to) amount) to z h) (All-replicate P (length to) 2 x)
shifted_all P ShiftLeftArith s to amount q z x h = by_known (All P) (all_known amount) _ _ (up_all P (distance (length to) amount) to z h) (All-replicate P (length to) 2 x)
shifted_all P _ s to amount q z x h = absurd (true≢false (sym q))

up_long : (n : ℕ) (to : List ℕ) → length (move_up 0 n to) ≤ length to
up_long n to = omega (arith, length-take (length to) (replicate n 0 ++ to))

down_long : (fill n : ℕ) (to : List ℕ) → length (move_down fill n to) ≤ length to
down_long fill n to = omega (arith, length-take (length to) (drop n to ++ replicate (length to) fill))

pub shifted_long : (op : BinaryOp) (s : Bool) (to : List ℕ) (amount : BitList) → is_shift (way op) ≡ true → length (shifted_slots op s to amount) ≤ length to
shifted_long ShiftRight s to amount q = by_known (λ (x : List ℕ). length x ≤ length to) (all_known amount) _ _ (down_long 0 (distance (length to) amount) to) (omega (arith, length-replicate {A = ℕ} (length to) 2))
shifted_long ShiftRightArith true to amount q = by_known (λ (x : List ℕ). length x ≤ length to) (all_known amount) _ _ (down_long (last_or 0 to) (distance (length to) amount) to) (omega (arith, length-replicate {A = ℕ} (length to) 2))
shifted_long ShiftRightArith false to amount q = by_known (λ (x : List ℕ). length x ≤ length to) (all_known amount) _ _ (down_long 0 (distance (length to) amount) to) (omega (arith, length-replicate {A = ℕ} (length to) 2))
shifted_long ShiftLeft s to amount q = by_known (λ (x : List ℕ). length x ≤ length to) (all_known amount) _ _ (up_long (distance (length to) amount) to) (omega (arith, length-replicate {A = ℕ} (length to) 2))
shifted_long ShiftLeftArith s to amount q = by_known (λ (x : List ℕ). length x ≤ length to) (all_known amount) _ _ (up_long (distance (length to) amount) to) (omega (arith, length-replicate {A = ℕ} (length to) 2))
shifted_long _ s to amount q = absurd (true≢false (sym q))

shift_width : (y : Way) (w m n : ℕ) → is_shift y ≡ true → left_width y w m n ≡ w
shift_width InContext w m n h = refl
shift_width Own w m n h = absurd (true≢false (sym h))
shift_width Compared w m n h = absurd (true≢false (sym h))
shift_width Shifted w m n h = refl
shift_width Raised w m n h = refl

pub returns_moved : (env : List ℕ) (code code1 code2 : Coding) (op : BinaryOp) (a b : Expression) (w : ℕ) (s ls : Bool) (ta tb to : List ℕ) → Operands env code code1 code2 op a b w s ls ta tb
    → is_shift (way op) ≡ true → AreConstant tb → to ≡ extended_slots w s (shifted_slots op ls ta (constant_bits tb))
    → AddsValue env code.calls code.next code2.calls code2.next (Binary op a b) w s to
returns_moved env code code1 code2 op a b w s ls ta tb to o shift cb is =
    let g = left_sign (way op) s (sign a) (sign b) in
    let amount = constant_bits tb in
    let r = shifted_slots op g ta amount in
    let least : 4 ≤ code2.next = omega (arith, o.ready.is_env.constants, o.left.value.values.added.grown, o.right.value.values.added.grown) in
    let source = IsSource env code.next (read_bits a ++ read_bits b) in
    adds_moved env code code1 code2 op a b w s ta tb r to o.ready o.left o.right
    (omega (arith, shifted_long op g ta amount shift, o.left.value.length, shift_width (way op) w (width a) (width b) shift))
    (λ slots h. shifted_are op g (right_sign (way op) s (sign a) (sign b)) slots ta amount shift h ∙ ap (apply_binary op g (right_sign (way op) s (sign a) (sign b)) (map slots ta)) (sym (bits_are slots tb h cb)))
    (shifted_all (λ slot. slot < code2.next) op g ta amount shift (omega arith) (omega arith)
    (All-weaker (λ slot. slot < code1.next) (λ slot. slot < code2.next) (λ slot l. omega (arith, o.right.value.values.added.grown)) ta (All-head (λ t. All (λ slot. slot < code1.next) t) ta [] o.left.value.values.below)))
    (λ h. shifted_all (λ slot. slot < 4) op g ta amount shift (omega arith) (omega arith) (o.left.value.constant (both_true (is_constant a) (is_constant b) h).0))
    (shifted_all source op g ta amount shift (inl (omega arith)) (inl (omega arith))
    (All-weaker (IsSource env code.next (read_bits a)) source (λ slot. wider env code.next code.next (read_bits a) (read_bits a ++ read_bits b) slot (omega arith) (λ bit. in_left (read_bits a) (read_bits b) bit)) ta o.left.value.sources))
    (is ∙ ap (λ (x : Bool). extended_slots w s (shifted_slots op x ta amount)) o.sign_is)

-- ---- two facts of one answer

pub both_ok : {X Y : Type 0} (r : Result X Y) (P : X → Type 0) (Q : Type 0) → IfOk r P → OnOk r Q → IfOk r (λ x. P x × Q)
both_ok (Ok x) P Q h k = (h, k)
both_ok (Err e) P Q h k = tt
