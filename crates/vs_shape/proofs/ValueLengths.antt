-- Lengths of values before they are extended to their context.
use Rattle.std.proofs.Common.{◌≡◌, ℕ, ◌-◌, ◌≤◌, Bool, List, length, replicate, arith}
use Rattle.std.proofs.lemmas.List.{length-append}
use Rattle.vs_four.specs.declared.Bit4.TheVariants.{X}
use Rattle.vs_four.specs.Lengths.{extend_with}
use Rattle.vs_design.specs.Expressions.{Expression, Unary, UnaryOp, Binary, BinaryOp, width}
use Rattle.vs_design.proofs.Lengths.{length_value}
use Rattle.vs_shape.specs.Constants.{unary_applied, binary_applied}

-- what is extended to a length was no longer
pub extend_fits : {A : Type 0} (fill : A) (w : ℕ) (xs : List A) → length (extend_with fill w xs) ≡ w → length xs ≤ w
extend_fits fill w xs h = let e = length-append xs (replicate (w - length xs) fill) in omega (arith, e, h)

-- operators in their context
pub unary_within : (op : UnaryOp) (e : Expression) (w : ℕ) (g : Bool) → width (Unary op e) ≤ w → length (unary_applied op e w g) ≤ w
unary_within op e w g k = extend_fits _ w (unary_applied op e w g) (length_value (Unary op e) w g (λ b. X) k)

pub binary_within : (op : BinaryOp) (e f : Expression) (w : ℕ) (g : Bool) → width (Binary op e f) ≤ w → length (binary_applied op e f w g) ≤ w
binary_within op e f w g k = extend_fits _ w (binary_applied op e f w g) (length_value (Binary op e f) w g (λ b. X) k)
