-- Operands of one length: all but those of `&&` and `||`, which stand by themselves (IEEE 1364-2005, 5.1.9).
use Rattle.std.specs.Prelude.{◌≡◌, List, length}
use Rattle.vs_design.specs.Expressions.{BinaryOp, LogicalAnd, LogicalOr}
use Rattle.vs_design.specs.Sets.{Set4}

abbrev pub SameLength : BinaryOp → List Set4 → List Set4 → Type 0
SameLength LogicalAnd a b = Unit {0}
SameLength LogicalOr a b = Unit {0}
SameLength _ a b = length a ≡ length b
