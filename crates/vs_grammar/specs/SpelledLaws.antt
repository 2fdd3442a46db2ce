-- What holds of texts and the trees that they spell.
use Rattle.std.specs.Prelude.{◌≡◌, ◌≤◌, ℕ, List}
use Rattle.vs_lexer.specs.declared.token.Token.{Token}
use Rattle.vs_grammar.specs.Trees.{Source}
use Rattle.vs_grammar.specs.Depths.{source_depth}
use Rattle.vs_grammar.specs.Spelled.{depth_limit, SpelledBy, Spells, LeftOutAt, HasSyntaxFault, IsTooDeep}

-- a text spells one tree at most
abbrev pub OneSource : Type 0
OneSource = (text : List ℕ) (a b : Source) → Spells text a → Spells text b → a ≡ b

-- and so do tokens
abbrev pub OneSourceOfTokens : Type 0
OneSourceOfTokens = (text : List ℕ) (tokens : List Token) (a b : Source) → SpelledBy text tokens a → SpelledBy text tokens b → a ≡ b

-- where the tokens spell a tree, none of them is at fault
abbrev pub SpelledHasNoFault : Type 0
SpelledHasNoFault =
    (text : List ℕ) (tokens : List Token) (source : Source) → SpelledBy text tokens source → (k : ℕ) →
    (LeftOutAt tokens k → ⊥) × (HasSyntaxFault tokens k → ⊥) × (IsTooDeep tokens k → ⊥)

-- the token with which no list goes on, and the first that is left out, are determined
abbrev pub OneFaultOfTokens : Type 0
OneFaultOfTokens =
    (tokens : List Token) (j k : ℕ) → (HasSyntaxFault tokens j → HasSyntaxFault tokens k → j ≡ k) × (LeftOutAt tokens j → LeftOutAt tokens k → j ≡ k)

-- a tree that tokens spell is within the limit on depth
abbrev pub SpelledIsShallow : Type 0
SpelledIsShallow = (text : List ℕ) (tokens : List Token) (source : Source) → SpelledBy text tokens source → source_depth source ≤ depth_limit
