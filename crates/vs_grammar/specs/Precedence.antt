-- The order of precedence of the operators of two operands (IEEE 1364-2005, table 5-4), and what the grammar has to make of it.
use Rattle.std.specs.Prelude.{◌≡◌, ◌+◌, ℕ, List, [], ◌∷◌, ◌++◌, codes, if◌then◌else◌, nat_le, slice_get, Some}
use Rattle.vs_lexer.specs.declared.token.TokenKind.{TokenKind}
use Rattle.vs_lexer.specs.declared.token.TokenKind.TheVariants as kind
use Rattle.vs_grammar.specs.Grammars.{Terminal, Derives}
use Rattle.vs_grammar.specs.Grammars.Tree.{both}
use Rattle.vs_grammar.specs.Kinds.{number_of}
use Rattle.vs_grammar.specs.Verilog.{◌⨾◌, t, r, Rule as rule}
use Rattle.vs_grammar.specs.Trees.{BinaryOp}
use Rattle.vs_grammar.specs.Trees.{Power, Multiply, Divide, Remainder, Add, Subtract, ShiftLeft, ShiftRight, ShiftLeftArith, ShiftRightArith, Less, LessEqual, Greater, GreaterEqual, Equal, NotEqual, CaseEqual, CaseNotEqual, BitAnd, BitXor, BitXnor, BitOr, LogicalAnd, LogicalOr}
use Rattle.vs_grammar.specs.Meaning.{D, expr_of}
use Rattle.vs_grammar.specs.Examples.{binary_sign, written}

-- how strongly an operator binds: the lines of the table from below, `?:` left away
abbrev pub strength : BinaryOp → ℕ
strength Power = 11
strength Multiply = 10
strength Divide = 10
strength Remainder = 10
strength Add = 9
strength Subtract = 9
strength ShiftLeft = 8
strength ShiftRight = 8
strength ShiftLeftArith = 8
strength ShiftRightArith = 8
strength Less = 7
strength LessEqual = 7
strength Greater = 7
strength GreaterEqual = 7
strength Equal = 6
strength NotEqual = 6
strength CaseEqual = 6
strength CaseNotEqual = 6
strength BitAnd = 5
strength BitXor = 4
strength BitXnor = 4
strength BitOr = 3
strength LogicalAnd = 2
strength LogicalOr = 1

-- an operator, as a token and as what it does
pub record Operator : Type 0 where
  pub kind : TokenKind
  pub op : BinaryOp

abbrev operator : TokenKind → BinaryOp → Operator
operator k o = record { kind = k; op = o }

-- all of them
abbrev pub operators : List Operator
operators =
    operator kind.Power Power ∷ operator kind.Star Multiply ∷ operator kind.Slash Divide ∷ operator kind.Percent Remainder ∷ operator kind.Plus Add ∷ operator kind.Minus Subtract
    ∷ operator kind.ShiftLeft ShiftLeft ∷ operator kind.ShiftRight ShiftRight ∷ operator kind.ArithmeticShiftLeft ShiftLeftArith
    ∷ operator kind.ArithmeticShiftRight ShiftRightArith ∷ operator kind.Less Less ∷ operator kind.LessEqual LessEqual ∷ operator kind.Greater Greater
    ∷ operator kind.GreaterEqual GreaterEqual ∷ operator kind.Equal Equal ∷ operator kind.NotEqual NotEqual ∷ operator kind.CaseEqual CaseEqual
    ∷ operator kind.CaseNotEqual CaseNotEqual ∷ operator kind.And BitAnd ∷ operator kind.Caret BitXor ∷ operator kind.Xnor BitXnor
    ∷ operator kind.XnorCaret BitXnor ∷ operator kind.Or BitOr ∷ operator kind.AndAnd LogicalAnd ∷ operator kind.OrOr LogicalOr ∷ []

-- `a p b q c ;` as terminals
abbrev pub terminal : TokenKind → ℕ → Terminal
terminal k n = record { kind = number_of k; place = n }

abbrev pub two_operations : Operator → Operator → List Terminal
two_operations p q =
    terminal kind.Identifier 0 ∷ terminal p.kind 1 ∷ terminal kind.Identifier 2 ∷ terminal q.kind 3 ∷ terminal kind.Identifier 4 ∷ terminal kind.Semicolon 5 ∷ []

-- the names: token n has the one byte that is the n-th small letter
abbrev pub letter : ℕ → List ℕ
letter n = (97 + n) ∷ []

-- the operator in front goes first where it binds at least as strongly as the one behind
abbrev pub groups : BinaryOp → BinaryOp → List ℕ
groups p q =
    if nat_le (strength q) (strength p)
    then codes "[[a" ++ binary_sign p ++ codes "c]" ++ binary_sign q ++ codes "e]"
    else codes "[a" ++ binary_sign p ++ codes "[c" ++ binary_sign q ++ codes "e]]"

abbrev pub first_of : D (r rule.Expression ⨾ t kind.Semicolon) → D (r rule.Expression)
first_of (both e z) = e

-- any two operators, in whatever way the grammar derives them
abbrev pub PrecedenceIs : Type 0
PrecedenceIs =
    (i j : ℕ) (p q : Operator) → slice_get operators i ≡ Some p → slice_get operators j ≡ Some q →
    (d : D (r rule.Expression ⨾ t kind.Semicolon)) → Derives d (two_operations p q) → written (expr_of letter (first_of d)) ≡ groups p.op q.op
