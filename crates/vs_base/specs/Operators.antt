-- The operators of expressions: how they take their operands, and the length and the sign of their results (IEEE 1364-2005, 5.1, 5.4.1, 5.5.1 and table 5-22).
use Rattle.std.specs.Prelude.{ℕ, Bool, true, false, ◌&&◌, max}
use Rattle.vs_base.specs.declared.operators.UnaryOp.{UnaryOp}
use Rattle.vs_base.specs.declared.operators.UnaryOp.TheVariants.{Plus, Minus, BitNot, Signed, Unsigned}
use Rattle.vs_base.specs.declared.operators.BinaryOp.{BinaryOp}
use Rattle.vs_base.specs.declared.operators.BinaryOp.TheVariants.{Less, LessEqual, Greater, GreaterEqual, Equal, NotEqual, CaseEqual, CaseNotEqual, LogicalAnd, LogicalOr, ShiftLeft, ShiftRight, ShiftLeftArith, ShiftRightArith, Power}
use Rattle.vs_base.specs.declared.operators.Way.{Way}
use Rattle.vs_base.specs.declared.operators.Way.TheVariants.{InContext, Own, Compared, Shifted, Raised}

-- in its own context, each self-determined, both in a context of their own, or the first in its context and the second self-determined
abbrev pub unary_way : UnaryOp → Way
unary_way Plus = InContext
unary_way Minus = InContext
unary_way BitNot = InContext
unary_way _ = Own

abbrev pub way : BinaryOp → Way
way Less = Compared
way LessEqual = Compared
way Greater = Compared
way GreaterEqual = Compared
way Equal = Compared
way NotEqual = Compared
way CaseEqual = Compared
way CaseNotEqual = Compared
way LogicalAnd = Own
way LogicalOr = Own
way ShiftLeft = Shifted
way ShiftRight = Shifted
way ShiftLeftArith = Shifted
way ShiftRightArith = Shifted
way Power = Raised
way _ = InContext

-- the length of an operator's result, by those of its operands (table 5-22)
abbrev pub unary_length : UnaryOp → ℕ → ℕ
unary_length Plus n = n
unary_length Minus n = n
unary_length BitNot n = n
unary_length Signed n = n
unary_length Unsigned n = n
unary_length _ n = 1

-- and its sign: signed only if all operands of its context are (5.5.1)
abbrev pub unary_sign : UnaryOp → Bool → Bool
unary_sign Plus s = s
unary_sign Minus s = s
unary_sign BitNot s = s
unary_sign Signed s = true
unary_sign _ s = false

abbrev pub binary_length : Way → ℕ → ℕ → ℕ
binary_length InContext m n = max m n
binary_length Shifted m n = m
binary_length Raised m n = m
binary_length _ m n = 1

abbrev pub binary_sign : Way → Bool → Bool → Bool
binary_sign InContext s t = s && t
binary_sign Shifted s t = s
binary_sign Raised s t = s
binary_sign _ s t = false

-- the length and the sign in which an operand is evaluated (5.4.1, 5.5.2): w and s are those of the context, m and n the lengths of the operands by themselves, t and u their signs
abbrev pub left_width : Way → ℕ → ℕ → ℕ → ℕ
left_width Own w m n = m
left_width Compared w m n = max m n
left_width _ w m n = w

abbrev pub right_width : Way → ℕ → ℕ → ℕ → ℕ
right_width InContext w m n = w
right_width Compared w m n = max m n
right_width _ w m n = n

abbrev pub left_sign : Way → Bool → Bool → Bool → Bool
left_sign Own s t u = t
left_sign Compared s t u = t && u
left_sign _ s t u = s

abbrev pub right_sign : Way → Bool → Bool → Bool → Bool
right_sign InContext s t u = s
right_sign Compared s t u = t && u
right_sign _ s t u = u
