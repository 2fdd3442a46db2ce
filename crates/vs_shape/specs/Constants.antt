-- Constant expressions of 1 to 64 bits, and operands of theirs.
use Rattle.std.specs.Prelude.{◌≡◌, ℕ, Bool, true, false}
use Rattle.vs_four.specs.declared.Bit4.TheVariants.{X}
use Rattle.vs_four.specs.Logic.{BitList}
use Rattle.vs_design.specs.Expressions.{Expression, UnaryOp, BinaryOp, unary_way, way, width, sign, is_constant}
use Rattle.vs_design.specs.Values.{value, apply_unary, apply_binary, left_width, right_width, left_sign, right_sign}
use Rattle.vs_design.specs.Fits.{fits}

-- an expression whose value can be told
pub record IsValued (e : Expression) : Type 0 where
  pub constant : is_constant e ≡ true
  pub fits : fits e ≡ true

-- the value of an operator before it is extended to its context
abbrev pub unary_applied : UnaryOp → Expression → ℕ → Bool → BitList
unary_applied op a w s = apply_unary op (value a (left_width (unary_way op) w (width a) 0) (left_sign (unary_way op) s (sign a) false) (λ b. X))

abbrev pub binary_applied : BinaryOp → Expression → Expression → ℕ → Bool → BitList
binary_applied op a b w s =
    apply_binary op (left_sign (way op) s (sign a) (sign b)) (right_sign (way op) s (sign a) (sign b))
    (value a (left_width (way op) w (width a) (width b)) (left_sign (way op) s (sign a) (sign b)) (λ b. X))
    (value b (right_width (way op) w (width a) (width b)) (right_sign (way op) s (sign a) (sign b)) (λ b. X))
