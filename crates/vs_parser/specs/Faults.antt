-- What is wrong with the tokens of a text that is not read.
use Rattle.std.specs.Prelude.{◌≡◌, ◌<◌, ℕ, List}
use Rattle.vs_lexer.specs.declared.token.Token.{Token}
use Rattle.vs_grammar.specs.Spelled.{LeftOutAt, HasSyntaxFault, IsTooDeep}
use Rattle.vs_statements.specs.declared.error.ParseError.{ParseError}
use Rattle.vs_statements.specs.declared.error.ParseError.TheVariants.{LeftOut, Syntax, TooDeep, Memory}

-- the token is the first that is left out, or the first with which no derived list goes on, or one with which none goes on that is shallow enough
abbrev pub Fault : List Token → ParseError → Type 0
Fault tokens (LeftOut k) = LeftOutAt tokens k
Fault tokens (Syntax k) = HasSyntaxFault tokens k
Fault tokens (TooDeep k) = IsTooDeep tokens k
Fault tokens Memory = Unit {0}

-- what is answered where token k is the first with which no derived list goes on: that one, or a token before it that is too deep, or that
-- memory is short
abbrev pub IsSyntaxAnswer : ℕ → ParseError → Type 0
IsSyntaxAnswer k (LeftOut j) = ⊥
IsSyntaxAnswer k (Syntax j) = j ≡ k
IsSyntaxAnswer k (TooDeep j) = j < k
IsSyntaxAnswer k Memory = Unit {0}

-- what is answered where a token is too deep: a token with which no derived list goes on, or one that is too deep, or that memory is short
abbrev pub IsDepthAnswer : ParseError → Type 0
IsDepthAnswer (LeftOut j) = ⊥
IsDepthAnswer (Syntax j) = Unit {0}
IsDepthAnswer (TooDeep j) = Unit {0}
IsDepthAnswer Memory = Unit {0}
