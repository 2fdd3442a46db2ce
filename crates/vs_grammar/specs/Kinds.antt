-- The terminals of the grammar: the kinds of tokens by number, and one for the end of the text.
use Rattle.std.specs.Prelude.{ℕ, suc, List, [], ◌∷◌, map}
use Rattle.vs_lexer.specs.declared.token.Token.{Token}
use Rattle.vs_lexer.specs.declared.token.TokenKind.{TokenKind}
use Rattle.vs_lexer.specs.declared.token.TokenKind.TheVariants as kind
use Rattle.vs_grammar.specs.Grammars.{Terminal}

-- each kind of token has a number of its own
abbrev pub number_of : TokenKind → ℕ
number_of kind.Identifier = 0
number_of kind.Decimal = 1
number_of kind.Based = 2
number_of kind.Text = 3
number_of kind.EscapedIdentifier = 4
number_of kind.SystemName = 5
number_of kind.Directive = 6
number_of kind.LeftOutWord = 7
number_of kind.SystemSigned = 8
number_of kind.SystemUnsigned = 9
number_of kind.SystemClog2 = 10
number_of kind.KeywordModule = 11
number_of kind.KeywordEndModule = 12
number_of kind.KeywordParameter = 13
number_of kind.KeywordSigned = 14
number_of kind.KeywordInput = 15
number_of kind.KeywordOutput = 16
number_of kind.KeywordWire = 17
number_of kind.KeywordReg = 18
number_of kind.KeywordGenerate = 19
number_of kind.KeywordEndGenerate = 20
number_of kind.KeywordLocalParam = 21
number_of kind.KeywordAssign = 22
number_of kind.KeywordAlways = 23
number_of kind.KeywordGenvar = 24
number_of kind.KeywordFor = 25
number_of kind.KeywordIf = 26
number_of kind.KeywordElse = 27
number_of kind.KeywordCase = 28
number_of kind.KeywordCasez = 29
number_of kind.KeywordCasex = 30
number_of kind.KeywordEndCase = 31
number_of kind.KeywordDefault = 32
number_of kind.KeywordBegin = 33
number_of kind.KeywordEnd = 34
number_of kind.KeywordPosedge = 35
number_of kind.KeywordNegedge = 36
number_of kind.KeywordOr = 37
number_of kind.OpenParen = 38
number_of kind.CloseParen = 39
number_of kind.OpenBracket = 40
number_of kind.CloseBracket = 41
number_of kind.OpenBrace = 42
number_of kind.CloseBrace = 43
number_of kind.Semicolon = 44
number_of kind.Colon = 45
number_of kind.Comma = 46
number_of kind.Dot = 47
number_of kind.Question = 48
number_of kind.At = 49
number_of kind.Hash = 50
number_of kind.Assign = 51
number_of kind.Plus = 52
number_of kind.Minus = 53
number_of kind.Star = 54
number_of kind.Slash = 55
number_of kind.Percent = 56
number_of kind.Tilde = 57
number_of kind.Bang = 58
number_of kind.And = 59
number_of kind.Or = 60
number_of kind.Caret = 61
number_of kind.Less = 62
number_of kind.Greater = 63
number_of kind.AndAnd = 64
number_of kind.OrOr = 65
number_of kind.Equal = 66
number_of kind.NotEqual = 67
number_of kind.CaseEqual = 68
number_of kind.CaseNotEqual = 69
number_of kind.LessEqual = 70
number_of kind.GreaterEqual = 71
number_of kind.ShiftLeft = 72
number_of kind.ShiftRight = 73
number_of kind.ArithmeticShiftLeft = 74
number_of kind.ArithmeticShiftRight = 75
number_of kind.Nand = 76
number_of kind.Nor = 77
number_of kind.Xnor = 78
number_of kind.XnorCaret = 79
number_of kind.PlusColon = 80
number_of kind.MinusColon = 81
number_of kind.Power = 82
number_of kind.Arrow = 83
number_of kind.KeywordFunction = 84
number_of kind.KeywordEndFunction = 85
number_of kind.KeywordInteger = 86
number_of kind.KeywordInitial = 87

-- the kind of the end of a text
abbrev pub end_of_text : ℕ
end_of_text = 88

abbrev pub numbers_of : List TokenKind → List ℕ
numbers_of ks = map number_of ks

-- ---- the tokens of a text as terminals

-- the tokens from number n on, and behind them the end of the text
abbrev pub terminals_from : ℕ → List Token → List Terminal
terminals_from n [] = record { kind = end_of_text; place = n } ∷ []
terminals_from n (t ∷ ts) = record { kind = number_of t.kind; place = n } ∷ terminals_from (suc n) ts

-- all tokens, and the end
abbrev pub terminals : List Token → List Terminal
terminals ts = terminals_from 0 ts
