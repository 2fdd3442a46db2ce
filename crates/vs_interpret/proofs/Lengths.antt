-- Lengths of values before they are extended to their context.
use Rattle.std.proofs.Common.{◌≡◌, ℕ, ◌-◌, ◌≤◌, Bool, false, List, length, replicate, sym, ◌∙◌, arith}
use Rattle.std.proofs.lemmas.List.{length-append}
use Rattle.vs_four.specs.Lengths.{extend_with}
use Rattle.vs_four.specs.Logic.{BitList}
use Rattle.vs_net.specs.Network.{State}
use Rattle.vs_base.specs.Applied.{HasLengths}
use Rattle.vs_design.specs.Expressions.{Expression, Unary, UnaryOp, Binary, BinaryOp, Add, Subtract, Multiply, Divide, Remainder, BitAnd, BitOr, BitXor, BitXnor, Less, LessEqual, Greater, GreaterEqual, Equal, NotEqual, CaseEqual, CaseNotEqual, LogicalAnd, LogicalOr, ShiftLeft, ShiftRight, ShiftLeftArith, ShiftRightArith, Power, unary_way, way, width, sign}
use Rattle.vs_design.specs.Values.{value, apply_unary, apply_binary, left_width, right_width, left_sign, right_sign}
use Rattle.vs_design.specs.TreeLaws.{ValueLength}

-- what is extended to a length was no longer
extend_fits : {A : Type 0} (fill : A) (w : ℕ) (xs : List A) → length (extend_with fill w xs) ≡ w → length xs ≤ w
extend_fits fill w xs h = let e = length-append xs (replicate (w - length xs) fill) in omega (arith, e, h)

pub unary_within : ValueLength → (op : UnaryOp) (e : Expression) (w : ℕ) (g : Bool) (s : State) → width (Unary op e) ≤ w → length (apply_unary op (value e (left_width (unary_way op) w (width e) 0) (left_sign (unary_way op) g (sign e) false) s)) ≤ w
unary_within law op e w g s k = extend_fits _ w _ (law (Unary op e) w g s k)

pub binary_within : ValueLength → (op : BinaryOp) (e f : Expression) (w : ℕ) (g : Bool) (s : State) → width (Binary op e f) ≤ w
    → length (apply_binary op (left_sign (way op) g (sign e) (sign f)) (right_sign (way op) g (sign e) (sign f)) (value e (left_width (way op) w (width e) (width f)) (left_sign (way op) g (sign e) (sign f)) s) (value f (right_width (way op) w (width e) (width f)) (right_sign (way op) g (sign e) (sign f)) s)) ≤ w
binary_within law op e f w g s k = extend_fits _ w _ (law (Binary op e f) w g s k)

-- operands in one context are equally long
pub operand_lengths : (op : BinaryOp) (w m n : ℕ) (a b : BitList) → length a ≡ left_width (way op) w m n → length b ≡ right_width (way op) w m n → HasLengths op a b
operand_lengths Add w m n a b p q = p ∙ sym q
operand_lengths Subtract w m n a b p q = p ∙ sym q
operand_lengths Multiply w m n a b p q = p ∙ sym q
operand_lengths Divide w m n a b p q = p ∙ sym q
operand_lengths Remainder w m n a b p q = p ∙ sym q
operand_lengths BitAnd w m n a b p q = p ∙ sym q
operand_lengths BitOr w m n a b p q = p ∙ sym q
operand_lengths BitXor w m n a b p q = p ∙ sym q
operand_lengths BitXnor w m n a b p q = p ∙ sym q
operand_lengths Less w m n a b p q = p ∙ sym q
operand_lengths LessEqual w m n a b p q = p ∙ sym q
operand_lengths Greater w m n a b p q = p ∙ sym q
operand_lengths GreaterEqual w m n a b p q = p ∙ sym q
operand_lengths Equal w m n a b p q = p ∙ sym q
operand_lengths NotEqual w m n a b p q = p ∙ sym q
operand_lengths CaseEqual w m n a b p q = p ∙ sym q
operand_lengths CaseNotEqual w m n a b p q = p ∙ sym q
operand_lengths LogicalAnd w m n a b p q = tt
operand_lengths LogicalOr w m n a b p q = tt
operand_lengths ShiftLeft w m n a b p q = tt
operand_lengths ShiftRight w m n a b p q = tt
operand_lengths ShiftLeftArith w m n a b p q = tt
operand_lengths ShiftRightArith w m n a b p q = tt
operand_lengths Power w m n a b p q = tt
