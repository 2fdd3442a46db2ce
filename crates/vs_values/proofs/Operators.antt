-- The kernel of each operator computes it, takes its operands, and is paid for by its weight.
use Rattle.std.proofs.Common.{◌≡◌, ℕ, ◌+◌, ◌*◌, ◌/◌, ◌≤◌, max, Bool, true, false, ◌&&◌, ◌==◌, nat_le, [], ◌∷◌, refl, arith, mul-le-mul_left}
use Rattle.vs_four.specs.Logic.{BitList}
use Rattle.vs_design.specs.Expressions.{UnaryOp, Plus, Minus, BitNot, LogicalNot, ReduceAnd, ReduceNand, ReduceOr, ReduceNor, ReduceXor, ReduceXnor, Signed, Unsigned, BinaryOp, Add, Subtract, Multiply, Divide, Remainder, BitAnd, BitOr, BitXor, BitXnor, Less, LessEqual, Greater, GreaterEqual, Equal, NotEqual, CaseEqual, CaseNotEqual, LogicalAnd, LogicalOr, ShiftLeft, ShiftRight, ShiftLeftArith, ShiftRightArith, Power, way, unary_way}
use Rattle.vs_design.specs.Values.{apply_unary, apply_binary, left_width, right_width}
use Rattle.vs_design.specs.Sizes.{unary_weight, binary_weight}
use Rattle.vs_design.specs.Fits.{is_division}
use Rattle.vs_code.specs.Kernels.{operator_of, takes, cost_of, room_of}
use Rattle.vs_kern_select.specs.Costs.{moving_bits}
use Rattle.vs_values.specs.Choices.{is_kept, unary_kernel, binary_kernel, unary_result, result_of_way, binary_lengths}

-- ---- lengths

le_true : (a b : ℕ) → a ≤ b → nat_le a b ≡ true
le_true a b h = grind arith

eq_true : (a : ℕ) → (a == a) ≡ true
eq_true a = grind arith

both : (a b : Bool) → a ≡ true → b ≡ true → (a && b) ≡ true
both true b h k = k
both false b h k = cc

three : (w : ℕ) → 1 ≤ w → (nat_le 1 w && w == w && w == w) ≡ true
three w h = both (nat_le 1 w && w == w) (w == w) (both (nat_le 1 w) (w == w) (le_true 1 w h) (eq_true w)) (eq_true w)

two : (w : ℕ) → 1 ≤ w → (nat_le 1 w && w == w) ≡ true
two w h = both (nat_le 1 w) (w == w) (le_true 1 w h) (eq_true w)

two_bit : (w : ℕ) → 1 ≤ w → (nat_le 1 w && w == w && 1 == 1) ≡ true
two_bit w h = both (nat_le 1 w && w == w) (1 == 1) (two w h) refl

one_bit : (w : ℕ) → 1 ≤ w → (nat_le 1 w && 1 == 1) ≡ true
one_bit w h = both (nat_le 1 w) (1 == 1) (le_true 1 w h) refl

truths : (m n : ℕ) → 1 ≤ m → 1 ≤ n → (nat_le 1 m && nat_le 1 n && 1 == 1) ≡ true
truths m n h k = both (nat_le 1 m && nat_le 1 n) (1 == 1) (both (nat_le 1 m) (nat_le 1 n) (le_true 1 m h) (le_true 1 n k)) refl

shift : (w n : ℕ) → 1 ≤ w → 1 ≤ n → (nat_le 1 w && nat_le 1 n && w == w) ≡ true
shift w n h k = both (nat_le 1 w && nat_le 1 n) (w == w) (both (nat_le 1 w) (nat_le 1 n) (le_true 1 w h) (le_true 1 n k)) (eq_true w)

max_some : (m n : ℕ) → 1 ≤ m → 1 ≤ max m n
max_some m n h = omega arith

pub binary_takes : (op : BinaryOp) (s : Bool) (w m n : ℕ) → is_division op ≡ false → 1 ≤ w → 1 ≤ m → 1 ≤ n
    → takes (binary_kernel op s) (left_width (way op) w m n ∷ right_width (way op) w m n ∷ result_of_way (way op) w ∷ []) ≡ true
binary_takes Add s w m n d h i j = three w h
binary_takes Subtract s w m n d h i j = three w h
binary_takes Multiply s w m n d h i j = three w h
binary_takes Divide s w m n d h i j = cc
binary_takes Remainder s w m n d h i j = cc
binary_takes Power s w m n d h i j = cc
binary_takes BitAnd s w m n d h i j = three w h
binary_takes BitOr s w m n d h i j = three w h
binary_takes BitXor s w m n d h i j = three w h
binary_takes BitXnor s w m n d h i j = three w h
binary_takes Less s w m n d h i j = two_bit (max m n) (max_some m n i)
binary_takes LessEqual s w m n d h i j = two_bit (max m n) (max_some m n i)
binary_takes Greater s w m n d h i j = two_bit (max m n) (max_some m n i)
binary_takes GreaterEqual s w m n d h i j = two_bit (max m n) (max_some m n i)
binary_takes Equal s w m n d h i j = two_bit (max m n) (max_some m n i)
binary_takes NotEqual s w m n d h i j = two_bit (max m n) (max_some m n i)
binary_takes CaseEqual s w m n d h i j = two_bit (max m n) (max_some m n i)
binary_takes CaseNotEqual s w m n d h i j = two_bit (max m n) (max_some m n i)
binary_takes LogicalAnd s w m n d h i j = truths m n i j
binary_takes LogicalOr s w m n d h i j = truths m n i j
binary_takes ShiftLeft s w m n d h i j = shift w n h j
binary_takes ShiftLeftArith s w m n d h i j = shift w n h j
binary_takes ShiftRight s w m n d h i j = shift w n h j
binary_takes ShiftRightArith true w m n d h i j = shift w n h j
binary_takes ShiftRightArith false w m n d h i j = shift w n h j

-- ---- values

pub binary_operator : (op : BinaryOp) (s u : Bool) (k : ℕ) (a b : BitList) → is_division op ≡ false → operator_of (binary_kernel op s) k (a ∷ b ∷ []) ≡ apply_binary op s u a b
binary_operator Add s u k a b d = refl
binary_operator Subtract s u k a b d = refl
binary_operator Multiply s u k a b d = refl
binary_operator Divide s u k a b d = cc
binary_operator Remainder s u k a b d = cc
binary_operator Power s u k a b d = cc
binary_operator BitAnd s u k a b d = refl
binary_operator BitOr s u k a b d = refl
binary_operator BitXor s u k a b d = refl
binary_operator BitXnor s u k a b d = refl
binary_operator Less s u k a b d = refl
binary_operator LessEqual s u k a b d = refl
binary_operator Greater s u k a b d = refl
binary_operator GreaterEqual s u k a b d = refl
binary_operator Equal s u k a b d = refl
binary_operator NotEqual s u k a b d = refl
binary_operator CaseEqual s u k a b d = refl
binary_operator CaseNotEqual s u k a b d = refl
binary_operator LogicalAnd s u k a b d = refl
binary_operator LogicalOr s u k a b d = refl
binary_operator ShiftLeft s u k a b d = refl
binary_operator ShiftLeftArith s u k a b d = refl
binary_operator ShiftRight s u k a b d = refl
binary_operator ShiftRightArith true u k a b d = refl
binary_operator ShiftRightArith false u k a b d = refl

-- ---- costs

product : (w : ℕ) → 1 ≤ w → w + w * (w + 1) / 2 ≤ 4 * (w * w)
product w h = let q : w * 1 ≤ w * w = mul-le-mul_left w h in omega (arith, q)

moves : (w n : ℕ) → moving_bits w n ≤ n
moves w n = omega arith

shift_cost : (w n k : ℕ) → k ≤ n → w + w * k ≤ w * (n + 1) + n
shift_cost w n k h = grind arith

pub binary_cost : (op : BinaryOp) (s : Bool) (w m n : ℕ) → is_division op ≡ false → 1 ≤ w → 1 ≤ m → 1 ≤ n
    → cost_of (binary_kernel op s) (left_width (way op) w m n ∷ right_width (way op) w m n ∷ result_of_way (way op) w ∷ []) ≤ binary_weight op w m n
binary_cost Add s w m n d h i j = omega arith
binary_cost Subtract s w m n d h i j = omega arith
binary_cost Multiply s w m n d h i j = product w h
binary_cost Divide s w m n d h i j = cc
binary_cost Remainder s w m n d h i j = cc
binary_cost Power s w m n d h i j = cc
binary_cost BitAnd s w m n d h i j = omega arith
binary_cost BitOr s w m n d h i j = omega arith
binary_cost BitXor s w m n d h i j = omega arith
binary_cost BitXnor s w m n d h i j = omega arith
binary_cost Less s w m n d h i j = omega arith
binary_cost LessEqual s w m n d h i j = omega arith
binary_cost Greater s w m n d h i j = omega arith
binary_cost GreaterEqual s w m n d h i j = omega arith
binary_cost Equal s w m n d h i j = omega arith
binary_cost NotEqual s w m n d h i j = omega arith
binary_cost CaseEqual s w m n d h i j = omega arith
binary_cost CaseNotEqual s w m n d h i j = omega arith
binary_cost LogicalAnd s w m n d h i j = omega arith
binary_cost LogicalOr s w m n d h i j = omega arith
binary_cost ShiftLeft s w m n d h i j = shift_cost w n (moving_bits w n) (moves w n)
binary_cost ShiftLeftArith s w m n d h i j = shift_cost w n (moving_bits w n) (moves w n)
binary_cost ShiftRight s w m n d h i j = shift_cost w n (moving_bits w n) (moves w n)
binary_cost ShiftRightArith true w m n d h i j = shift_cost w n (moving_bits w n) (moves w n)
binary_cost ShiftRightArith false w m n d h i j = shift_cost w n (moving_bits w n) (moves w n)

-- the value and what is kept on the way are paid for
pub binary_room : (op : BinaryOp) (s : Bool) (w m n : ℕ) → is_division op ≡ false → 1 ≤ w
    → result_of_way (way op) w + room_of (binary_kernel op s) (left_width (way op) w m n ∷ right_width (way op) w m n ∷ result_of_way (way op) w ∷ [])
    ≤ cost_of (binary_kernel op s) (left_width (way op) w m n ∷ right_width (way op) w m n ∷ result_of_way (way op) w ∷ [])
binary_room Multiply s w m n d h = omega arith
binary_room Divide s w m n d h = cc
binary_room Remainder s w m n d h = cc
binary_room Power s w m n d h = cc
binary_room ShiftRightArith true w m n d h = omega arith
binary_room ShiftRightArith false w m n d h = omega arith
binary_room Add s w m n d h = omega arith
binary_room Subtract s w m n d h = omega arith
binary_room BitAnd s w m n d h = omega arith
binary_room BitOr s w m n d h = omega arith
binary_room BitXor s w m n d h = omega arith
binary_room BitXnor s w m n d h = omega arith
binary_room Less s w m n d h = omega arith
binary_room LessEqual s w m n d h = omega arith
binary_room Greater s w m n d h = omega arith
binary_room GreaterEqual s w m n d h = omega arith
binary_room Equal s w m n d h = omega arith
binary_room NotEqual s w m n d h = omega arith
binary_room CaseEqual s w m n d h = omega arith
binary_room CaseNotEqual s w m n d h = omega arith
binary_room LogicalAnd s w m n d h = omega arith
binary_room LogicalOr s w m n d h = omega arith
binary_room ShiftLeft s w m n d h = omega arith
binary_room ShiftLeftArith s w m n d h = omega arith
binary_room ShiftRight s w m n d h = omega arith

-- ---- of one operand

-- has a kernel of its own
pub unary_takes : (op : UnaryOp) (w n : ℕ) → is_kept op ≡ false → 1 ≤ w → 1 ≤ n → takes (unary_kernel op) (left_width (unary_way op) w n 0 ∷ unary_result op w ∷ []) ≡ true
unary_takes Plus w n k h i = cc
unary_takes Signed w n k h i = cc
unary_takes Unsigned w n k h i = cc
unary_takes Minus w n k h i = two w h
unary_takes BitNot w n k h i = two w h
unary_takes LogicalNot w n k h i = one_bit n i
unary_takes ReduceAnd w n k h i = one_bit n i
unary_takes ReduceNand w n k h i = one_bit n i
unary_takes ReduceOr w n k h i = one_bit n i
unary_takes ReduceNor w n k h i = one_bit n i
unary_takes ReduceXor w n k h i = one_bit n i
unary_takes ReduceXnor w n k h i = one_bit n i

pub unary_operator : (op : UnaryOp) (k : ℕ) (a : BitList) → is_kept op ≡ false → operator_of (unary_kernel op) k (a ∷ []) ≡ apply_unary op a
unary_operator Plus k a h = cc
unary_operator Signed k a h = cc
unary_operator Unsigned k a h = cc
unary_operator Minus k a h = refl
unary_operator BitNot k a h = refl
unary_operator LogicalNot k a h = refl
unary_operator ReduceAnd k a h = refl
unary_operator ReduceNand k a h = refl
unary_operator ReduceOr k a h = refl
unary_operator ReduceNor k a h = refl
unary_operator ReduceXor k a h = refl
unary_operator ReduceXnor k a h = refl

pub unary_cost : (op : UnaryOp) (w n : ℕ) → is_kept op ≡ false → 1 ≤ w → 1 ≤ n → cost_of (unary_kernel op) (left_width (unary_way op) w n 0 ∷ unary_result op w ∷ []) ≤ unary_weight op w n
unary_cost Plus w n k h i = cc
unary_cost Signed w n k h i = cc
unary_cost Unsigned w n k h i = cc
unary_cost Minus w n k h i = omega arith
unary_cost BitNot w n k h i = omega arith
unary_cost LogicalNot w n k h i = omega arith
unary_cost ReduceAnd w n k h i = omega arith
unary_cost ReduceNand w n k h i = omega arith
unary_cost ReduceOr w n k h i = omega arith
unary_cost ReduceNor w n k h i = omega arith
unary_cost ReduceXor w n k h i = omega arith
unary_cost ReduceXnor w n k h i = omega arith

pub unary_room : (op : UnaryOp) (w n : ℕ) → is_kept op ≡ false
    → unary_result op w + room_of (unary_kernel op) (left_width (unary_way op) w n 0 ∷ unary_result op w ∷ []) ≤ cost_of (unary_kernel op) (left_width (unary_way op) w n 0 ∷ unary_result op w ∷ [])
unary_room Plus w n k = cc
unary_room Signed w n k = cc
unary_room Unsigned w n k = cc
unary_room Minus w n k = omega arith
unary_room BitNot w n k = omega arith
unary_room LogicalNot w n k = omega arith
unary_room ReduceAnd w n k = omega arith
unary_room ReduceNand w n k = omega arith
unary_room ReduceOr w n k = omega arith
unary_room ReduceNor w n k = omega arith
unary_room ReduceXor w n k = omega arith
unary_room ReduceXnor w n k = omega arith

pub scratch_is : (op : BinaryOp) (s : Bool) (w m n : ℕ) → 0 ≡ room_of (binary_kernel op s) (binary_lengths op w m n)
scratch_is Add s w m n = refl
scratch_is Subtract s w m n = refl
scratch_is Multiply s w m n = refl
scratch_is Divide s w m n = refl
scratch_is Remainder s w m n = refl
scratch_is Power s w m n = refl
scratch_is BitAnd s w m n = refl
scratch_is BitOr s w m n = refl
scratch_is BitXor s w m n = refl
scratch_is BitXnor s w m n = refl
scratch_is Less s w m n = refl
scratch_is LessEqual s w m n = refl
scratch_is Greater s w m n = refl
scratch_is GreaterEqual s w m n = refl
scratch_is Equal s w m n = refl
scratch_is NotEqual s w m n = refl
scratch_is CaseEqual s w m n = refl
scratch_is CaseNotEqual s w m n = refl
scratch_is LogicalAnd s w m n = refl
scratch_is LogicalOr s w m n = refl
scratch_is ShiftLeft s w m n = refl
scratch_is ShiftRight s w m n = refl
scratch_is ShiftLeftArith s w m n = refl
scratch_is ShiftRightArith true w m n = refl
scratch_is ShiftRightArith false w m n = refl
