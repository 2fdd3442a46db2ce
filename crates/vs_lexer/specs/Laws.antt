-- What the definitions of tokens give together.
use Rattle.std.specs.Prelude.{◌≡◌, ℕ, ◌-◌, ◌<◌, ◌≤◌, ◌++◌, true, List, take, drop, length, slice_index, Some, None, Ok, MatchOption, IfSome}
use Rattle.std.specs.List.{All}
use Rattle.vs_lexer.specs.declared.token.Token.{Token}
use Rattle.vs_lexer.specs.Tokens.{token_kind, longest, here}
use Rattle.vs_lexer.specs.declared.token.Span.{Span}
use Rattle.vs_lexer.specs.declared.token.TokenKind.{TokenKind}
use Rattle.vs_lexer.specs.declared.token.TokenKind.TheVariants as TokenKind
use Rattle.vs_lexer.specs.Literals.{is_in_range}
use Rattle.vs_lexer.specs.Cuts.{cut_text, bytes_in, own_bytes, token_limit}

-- The longest token at the front of a text is a prefix that is a token of that kind, and no longer prefix is one. Where there is none, no
-- prefix is a token.
abbrev pub LongestIsTaken : Type 0
LongestIsTaken =
    (text : List ℕ) → MatchOption (longest text) ((n : ℕ) → n ≤ length text → token_kind (take n text) ≡ None)
    (λ l. (token_kind (take l.length text) ≡ Some l.kind) × (l.length ≤ length text) × ((n : ℕ) → l.length < n → n ≤ length text → token_kind (take n text) ≡ None))

-- The size of a number that stands elsewhere (3.5.1): an unsized decimal number of the text. The number's own bytes begin with the quote of its base,
-- and put together they are in range.
pub record IsSizeOf (text : List ℕ) (kind : TokenKind) (own : List ℕ) (size : Span) : Type 0 where
  pub some : size.start < size.end
  pub inside : size.end ≤ length text
  pub decimal : here (drop size.start text) ≡ Ok (record { kind = TokenKind.Decimal; length = size.end - size.start })
  pub based : kind ≡ TokenKind.Based
  pub quote : slice_index own 0 ≡ 39
  pub in_range : is_in_range (bytes_in text size ++ own) ≡ true

-- a token of the text: some bytes, the longest that are a token at their place, and perhaps a size elsewhere
pub record StandsIn (text : List ℕ) (token : Token) : Type 0 where
  pub some : token.start < token.end
  pub inside : token.end ≤ length text
  pub taken : here (drop token.start text) ≡ Ok (record { kind = token.kind; length = token.end - token.start })
  pub sized : IfSome token.size (IsSizeOf text token.kind (own_bytes text token))

-- Tokens of the text: no more than the limit, and each stands in it, wherever a reader finds it. Those that the text is cut into are such, and so
-- is what macros make of them (19.3).
pub record AreTokens (text : List ℕ) (tokens : List Token) : Type 0 where
  pub few : length tokens ≤ token_limit
  pub each : All (StandsIn text) tokens

-- what a text is cut into are tokens of it
abbrev pub TokensStand : Type 0
TokensStand = (text : List ℕ) (tokens : List Token) → cut_text text ≡ Ok tokens → AreTokens text tokens
