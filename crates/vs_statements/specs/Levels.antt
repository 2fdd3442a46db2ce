-- The operators between two operands, by how strongly they bind (IEEE 1364-2005, table 5-4).
use Rattle.std.specs.Prelude.{ℕ, Bool, true, false, List, [], ◌∷◌}
use Rattle.vs_lexer.specs.declared.token.TokenKind.{TokenKind}
use Rattle.vs_lexer.specs.declared.token.TokenKind.TheVariants as kind
use Rattle.vs_grammar.specs.Grammars.{Phrase}
use Rattle.vs_grammar.specs.Grammars.Phrase.{eps}
use Rattle.vs_grammar.specs.Verilog.{t, r, product_operator, sum_operator, shift_operator, relation_operator, equality_operator, xor_operator}
use Rattle.vs_grammar.specs.Verilog.{Rule as rule}
use Rattle.vs_grammar.specs.Trees.{Expr}
use Rattle.vs_grammar.specs.Meaning as meaning
use Rattle.vs_grammar.specs.Meaning.{D}
use Rattle.vs_base.specs.declared.operators.BinaryOp.{BinaryOp}
use Rattle.vs_base.specs.declared.operators.BinaryOp.TheVariants as binary
use Rattle.vs_statements.specs.Reading.{Growing}
use Rattle.vs_statements.specs.declared.input.Input.{Input}
use Rattle.vs_statements.specs.declared.levels.Level.{Level}
use Rattle.vs_statements.specs.declared.levels.Level.TheVariants as level

abbrev pub is_unary_level : Level → Bool
is_unary_level level.Unary = true
is_unary_level _ = false

abbrev pub below_of : Level → Level
below_of level.Unary = level.Unary
below_of level.Power = level.Unary
below_of level.Product = level.Power
below_of level.Sum = level.Product
below_of level.Shift = level.Sum
below_of level.Relation = level.Shift
below_of level.Equality = level.Relation
below_of level.BitAnd = level.Equality
below_of level.BitXor = level.BitAnd
below_of level.BitOr = level.BitXor
below_of level.LogicalAnd = level.BitOr
below_of level.LogicalOr = level.LogicalAnd

abbrev pub rank_of : Level → ℕ
rank_of level.Unary = 0
rank_of level.Power = 1
rank_of level.Product = 2
rank_of level.Sum = 3
rank_of level.Shift = 4
rank_of level.Relation = 5
rank_of level.Equality = 6
rank_of level.BitAnd = 7
rank_of level.BitXor = 8
rank_of level.BitOr = 9
rank_of level.LogicalAnd = 10
rank_of level.LogicalOr = 11

abbrev pub table_of : Level → List (TokenKind × BinaryOp)
table_of level.Unary = []
table_of level.Power = (kind.Power, binary.Power) ∷ []
table_of level.Product = (kind.Star, binary.Multiply) ∷ (kind.Slash, binary.Divide) ∷ (kind.Percent, binary.Remainder) ∷ []
table_of level.Sum = (kind.Plus, binary.Add) ∷ (kind.Minus, binary.Subtract) ∷ []
table_of level.Shift = (kind.ShiftLeft, binary.ShiftLeft) ∷ (kind.ShiftRight, binary.ShiftRight) ∷ (kind.ArithmeticShiftLeft, binary.ShiftLeftArith) ∷ (kind.ArithmeticShiftRight, binary.ShiftRightArith) ∷ []
table_of level.Relation = (kind.Less, binary.Less) ∷ (kind.LessEqual, binary.LessEqual) ∷ (kind.Greater, binary.Greater) ∷ (kind.GreaterEqual, binary.GreaterEqual) ∷ []
table_of level.Equality = (kind.Equal, binary.Equal) ∷ (kind.NotEqual, binary.NotEqual) ∷ (kind.CaseEqual, binary.CaseEqual) ∷ (kind.CaseNotEqual, binary.CaseNotEqual) ∷ []
table_of level.BitAnd = (kind.And, binary.BitAnd) ∷ []
table_of level.BitXor = (kind.Caret, binary.BitXor) ∷ (kind.Xnor, binary.BitXnor) ∷ (kind.XnorCaret, binary.BitXnor) ∷ []
table_of level.BitOr = (kind.Or, binary.BitOr) ∷ []
table_of level.LogicalAnd = (kind.AndAnd, binary.LogicalAnd) ∷ []
table_of level.LogicalOr = (kind.OrOr, binary.LogicalOr) ∷ []

-- the rule of a level
abbrev pub level_phrase : Level → Phrase
level_phrase level.Unary = r rule.Unary
level_phrase level.Power = r rule.Power
level_phrase level.Product = r rule.Product
level_phrase level.Sum = r rule.Sum
level_phrase level.Shift = r rule.Shift
level_phrase level.Relation = r rule.Relation
level_phrase level.Equality = r rule.Equality
level_phrase level.BitAnd = r rule.BitAnd
level_phrase level.BitXor = r rule.BitXor
level_phrase level.BitOr = r rule.BitOr
level_phrase level.LogicalAnd = r rule.LogicalAnd
level_phrase level.LogicalOr = r rule.LogicalOr

abbrev pub level_operator : Level → Phrase
level_operator level.Unary = eps
level_operator level.Power = t kind.Power
level_operator level.Product = product_operator
level_operator level.Sum = sum_operator
level_operator level.Shift = shift_operator
level_operator level.Relation = relation_operator
level_operator level.Equality = equality_operator
level_operator level.BitAnd = t kind.And
level_operator level.BitXor = xor_operator
level_operator level.BitOr = t kind.Or
level_operator level.LogicalAnd = t kind.AndAnd
level_operator level.LogicalOr = t kind.OrOr

abbrev pub level_op : (v : Level) → D (level_operator v) → BinaryOp
level_op level.Unary = λ o. binary.Add
level_op level.Power = (λ o. binary.Power)
level_op level.Product = meaning.product_op
level_op level.Sum = meaning.sum_op
level_op level.Shift = meaning.shift_op
level_op level.Relation = meaning.relation_op
level_op level.Equality = meaning.equality_op
level_op level.BitAnd = (λ o. binary.BitAnd)
level_op level.BitXor = meaning.xor_op
level_op level.BitOr = (λ o. binary.BitOr)
level_op level.LogicalAnd = (λ o. binary.LogicalAnd)
level_op level.LogicalOr = (λ o. binary.LogicalOr)

-- what an expression of a level stands for
abbrev pub level_of : (v : Level) → (ℕ → List ℕ) → D (level_phrase v) → Expr
level_of level.Unary = meaning.unary_of
level_of level.Power = meaning.power_of
level_of level.Product = meaning.product_of
level_of level.Sum = meaning.sum_of
level_of level.Shift = meaning.shift_of
level_of level.Relation = meaning.relation_of
level_of level.Equality = meaning.equality_of
level_of level.BitAnd = meaning.bit_and_of
level_of level.BitXor = meaning.bit_xor_of
level_of level.BitOr = meaning.bit_or_of
level_of level.LogicalAnd = meaning.logical_and_of
level_of level.LogicalOr = meaning.logical_or_of

-- as far as the operands and operators of a level have been read
abbrev pub Chained : Input → Level → ℕ → ℕ → Expr → ℕ → ℕ → Type 0
Chained input level.Unary d i value j height = ⊥
Chained input level.Power d i value j height = Growing input (t kind.Power) (r rule.Unary) (λ o. binary.Power) meaning.unary_of meaning.power_chain d i value j height
Chained input level.Product d i value j height = Growing input (product_operator) (r rule.Power) meaning.product_op meaning.power_of meaning.product_chain d i value j height
Chained input level.Sum d i value j height = Growing input (sum_operator) (r rule.Product) meaning.sum_op meaning.product_of meaning.sum_chain d i value j height
Chained input level.Shift d i value j height = Growing input (shift_operator) (r rule.Sum) meaning.shift_op meaning.sum_of meaning.shift_chain d i value j height
Chained input level.Relation d i value j height = Growing input (relation_operator) (r rule.Shift) meaning.relation_op meaning.shift_of meaning.relation_chain d i value j height
Chained input level.Equality d i value j height = Growing input (equality_operator) (r rule.Relation) meaning.equality_op meaning.relation_of meaning.equality_chain d i value j height
Chained input level.BitAnd d i value j height = Growing input (t kind.And) (r rule.Equality) (λ o. binary.BitAnd) meaning.equality_of meaning.bit_and_chain d i value j height
Chained input level.BitXor d i value j height = Growing input (xor_operator) (r rule.BitAnd) meaning.xor_op meaning.bit_and_of meaning.bit_xor_chain d i value j height
Chained input level.BitOr d i value j height = Growing input (t kind.Or) (r rule.BitXor) (λ o. binary.BitOr) meaning.bit_xor_of meaning.bit_or_chain d i value j height
Chained input level.LogicalAnd d i value j height = Growing input (t kind.AndAnd) (r rule.BitOr) (λ o. binary.LogicalAnd) meaning.bit_or_of meaning.logical_and_chain d i value j height
Chained input level.LogicalOr d i value j height = Growing input (t kind.OrOr) (r rule.LogicalAnd) (λ o. binary.LogicalOr) meaning.logical_and_of meaning.logical_or_chain d i value j height

pub record Chain (input : Input) (v : Level) (d i : ℕ) (value : Expr) (j height : ℕ) : Type 0 where
  pub operands : Chained input v d i value j height
