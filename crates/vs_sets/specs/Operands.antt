-- The sets of an operator's two operands, in the contexts that it gives them (IEEE 1364-2005, 5.4.1 and 5.5.2).
use Rattle.std.specs.Prelude.{◌≡◌, ℕ, Bool, List}
use Rattle.vs_design.specs.Expressions.{Expression, BinaryOp, way, width, sign}
use Rattle.vs_design.specs.Values.{left_width, right_width, left_sign, right_sign}
use Rattle.vs_design.specs.Sets.{Set4}
use Rattle.vs_design.specs.Lifted.{Family, lifted}
use Rattle.std.specs.Prelude.{length}

-- and there are as many as the operand's context has bits
abbrev pub AreLeftSets : BinaryOp → Expression → Expression → ℕ → Bool → Family → List Set4 → Type 0
AreLeftSets op a b w s sets ss =
    (ss ≡ lifted a (left_width (way op) w (width a) (width b)) (left_sign (way op) s (sign a) (sign b)) sets) × (length ss ≡ left_width (way op) w (width a) (width b))

abbrev pub AreRightSets : BinaryOp → Expression → Expression → ℕ → Bool → Family → List Set4 → Type 0
AreRightSets op a b w s sets ss =
    (ss ≡ lifted b (right_width (way op) w (width a) (width b)) (right_sign (way op) s (sign a) (sign b)) sets) × (length ss ≡ right_width (way op) w (width a) (width b))
