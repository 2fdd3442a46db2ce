-- The lengths and signs of expressions (IEEE 1364-2005, 5.1, 5.4.1 and 5.5.1).
use Rattle.std.specs.Prelude.{ℕ, ◌+◌, ◌*◌, Bool, true, false, ◌&&◌, length, max}
pub use Rattle.vs_design.specs.Trees.{Signal, range_or_one, words_length, signal_length, word_length, range_or_zero, addresses, Source, OfSignal, OfConstant, Header, local_signals, Expression, Literal, Name, Select, Word, WordPart, Unary, Binary, Choice, Join, Repeat, At, Call, Items, NoItem, Item, items_of}
pub use Rattle.vs_base.specs.declared.operators.UnaryOp.{UnaryOp}
pub use Rattle.vs_base.specs.declared.operators.UnaryOp.TheVariants.{Plus, Minus, BitNot, LogicalNot, ReduceAnd, ReduceNand, ReduceOr, ReduceNor, ReduceXor, ReduceXnor, Signed, Unsigned}
pub use Rattle.vs_base.specs.declared.operators.BinaryOp.{BinaryOp}
pub use Rattle.vs_base.specs.declared.operators.BinaryOp.TheVariants.{Add, Subtract, Multiply, Divide, Remainder, BitAnd, BitOr, BitXor, BitXnor, Less, LessEqual, Greater, GreaterEqual, Equal, NotEqual, CaseEqual, CaseNotEqual, LogicalAnd, LogicalOr, ShiftLeft, ShiftRight, ShiftLeftArith, ShiftRightArith, Power}
pub use Rattle.vs_base.specs.declared.operators.Way.{Way}
pub use Rattle.vs_base.specs.declared.operators.Way.TheVariants.{InContext, Own, Compared, Shifted, Raised}
pub use Rattle.vs_base.specs.Operators.{unary_way, way, unary_length, unary_sign, binary_length, binary_sign}

-- the length of an expression by itself (table 5-22); of a call it is its function's
abbrev pub width : Expression → ℕ
width (Literal bits signed sized) = length bits
width (Name signal) = signal_length signal
width (Select source part index) = part.width
width (Word signal index) = word_length signal
width (WordPart signal address part index) = part.width
width (Unary op a) = unary_length op (width a)
width (Binary op a b) = binary_length (way op) (width a) (width b)
width (Choice c p q) = max (width p) (width q)
width (Join high low) = width high + width low
width (Repeat count a) = count * width a
width (At place e) = width e
width (Call header statement arguments) = signal_length header.result

-- whether it is signed; a select, a concatenation, a comparison and a reduction are not (5.5.1). A word has its memory's sign
abbrev pub sign : Expression → Bool
sign (Literal bits signed sized) = signed
sign (Name signal) = signal.signed
sign (Select source part index) = false
sign (Word signal index) = signal.signed
sign (WordPart signal address part index) = false
sign (Unary op a) = unary_sign op (sign a)
sign (Binary op a b) = binary_sign (way op) (sign a) (sign b)
sign (Choice c p q) = sign p && sign q
sign (Join high low) = false
sign (Repeat count a) = false
sign (At place e) = sign e
sign (Call header statement arguments) = header.result.signed

-- a constant expression names no signal; a call counts as naming one
abbrev pub is_constant : Expression → Bool
is_constant (Literal bits signed sized) = true
is_constant (Name signal) = false
is_constant (Select (OfSignal signal) part index) = false
is_constant (Select (OfConstant bits) part index) = is_constant index
is_constant (Word signal index) = false
is_constant (WordPart signal address part index) = false
is_constant (Unary op a) = is_constant a
is_constant (Binary op a b) = is_constant a && is_constant b
is_constant (Choice c p q) = is_constant c && is_constant p && is_constant q
is_constant (Join high low) = is_constant high && is_constant low
is_constant (Repeat count a) = is_constant a
is_constant (At place e) = is_constant e
is_constant (Call header statement arguments) = false
