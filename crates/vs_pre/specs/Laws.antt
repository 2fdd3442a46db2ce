-- What the definitions give together.
use Rattle.std.specs.Prelude.{◌≡◌, ◌≤◌, ℕ, suc, ◌+◌, Bool, true, false, ◌&&◌, List, [], ◌∷◌, length, drop, Some, None, Ok}
use Rattle.std.specs.List.{list_any}
use Rattle.vs_lexer.specs.declared.token.Token.{Token}
use Rattle.vs_lexer.specs.declared.token.TokenKind.{TokenKind}
use Rattle.vs_lexer.specs.Laws.{AreTokens}
use Rattle.vs_pre.specs.Words.{is_directive, is_decimal, is_based}
use Rattle.vs_pre.specs.Attributes.{begins_attribute, to_end, without_attributes}
use Rattle.vs_pre.specs.Preprocessing.{pre}

-- the first of these tokens is of such a kind
abbrev pub first_is : (TokenKind → Bool) → List Token → Bool
first_is p [] = false
first_is p (t ∷ ts) = p t.kind

-- no attribute begins at any of these tokens
abbrev pub HasNoAttribute : List Token → Type 0
HasNoAttribute tokens = (n : ℕ) → begins_attribute (drop n tokens) ≡ false

-- no unsized decimal number stands directly in front of a number with a base
abbrev pub HasNoSize : List Token → Type 0
HasNoSize tokens = (n : ℕ) → (first_is is_decimal (drop n tokens) && first_is is_based (drop (suc n) tokens)) ≡ false

-- tokens without a directive, an attribute and a size that stands in front of its number become what they are
abbrev pub PlainStays : Type 0
PlainStays = (text : List ℕ) (tokens : List Token) → list_any (λ (t : Token). is_directive t.kind) tokens ≡ false → HasNoAttribute tokens → HasNoSize tokens → length tokens ≤ 1048576 → pre text tokens ≡ Ok tokens

-- Skipping attributes (3.8): where none begins, or none ends, all tokens stay; a token with which none begins stays; and where one begins that ends,
-- what is left is what is left of the tokens behind its end.
abbrev pub AttributesAreSkipped : Type 0
AttributesAreSkipped =
    ((tokens : List Token) → HasNoAttribute tokens → without_attributes tokens ≡ tokens)
    × ((tokens : List Token) → to_end (drop 2 tokens) ≡ None → without_attributes tokens ≡ tokens)
    × ((t : Token) (ts : List Token) → begins_attribute (t ∷ ts) ≡ false → without_attributes (t ∷ ts) ≡ t ∷ without_attributes ts)
    × ((ts : List Token) (n : ℕ) → begins_attribute ts ≡ true → to_end (drop 2 ts) ≡ Some n → without_attributes ts ≡ without_attributes (drop (2 + n) ts))

-- what tokens of a text become are tokens of it, no more than the limit
abbrev pub KeptAreTokens : Type 0
KeptAreTokens = (text : List ℕ) (tokens list : List Token) → AreTokens text tokens → pre text tokens ≡ Ok list → AreTokens text list
