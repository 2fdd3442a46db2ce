-- The length, the sign and the constancy of an expression, in one.
use Rattle.std.specs.Prelude.{ℕ, min}
use Rattle.vs_design.specs.Expressions.{Expression, width, sign, is_constant}
use Rattle.vs_shape.specs.declared.shape.Shape.{Shape}

-- 65 stands for every length over 64
abbrev pub capped_width : Expression → ℕ
capped_width e = min (width e) 65

abbrev pub shape_of : Expression → Shape
shape_of e = record { width = capped_width e; signed = sign e; constant = is_constant e }
