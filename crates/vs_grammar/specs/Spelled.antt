-- Which tree a text spells, and what is wrong with a text that spells none (IEEE 1364-2005, clauses 3 and 19, and annex A).
use Rattle.std.specs.Prelude.{◌≡◌, ℕ, ◌<◌, ◌≤◌, true, false, List}
use Rattle.vs_lexer.specs.declared.token.Token.{Token}
use Rattle.vs_lexer.specs.Cuts.{spelling_of}
use Rattle.vs_lexer.specs.LeftOut.{is_left_out}
use Rattle.vs_pre.specs.Reads.{ReadsAs}
use Rattle.vs_grammar.specs.Grammars.{depth, Derives, SyntaxAt, TooDeepAt}
use Rattle.vs_grammar.specs.Kinds.{terminals}
use Rattle.vs_grammar.specs.Verilog.{verilog, phrase_of, Rule as rule}
use Rattle.vs_grammar.specs.Meaning.{D, text_of}
use Rattle.vs_grammar.specs.Trees.{Source}

-- the deepest chain of nested levels that a text may have
abbrev pub depth_limit : ℕ
depth_limit = 200

-- no token is left out
abbrev pub NoneLeftOut : List Token → Type 0
NoneLeftOut tokens = (n : ℕ) → is_left_out tokens n ≡ false

-- The tokens of a text spell this tree: none is left out, and the grammar derives them, within the limit on depth, with a derivation that stands
-- for the tree.
pub record SpelledBy (text : List ℕ) (tokens : List Token) (source : Source) : Type 0 where
  pub kept : NoneLeftOut tokens
  pub derivation : D (phrase_of rule.Text)
  pub derived : Derives derivation (terminals tokens)
  pub stands : text_of (spelling_of text tokens) derivation ≡ source
  pub shallow : depth derivation ≤ depth_limit

-- The text spells this tree: it is read as tokens, with its macros and conditional parts resolved, and they spell it.
pub record Spells (text : List ℕ) (source : Source) : Type 0 where
  pub tokens : List Token
  pub read : ReadsAs text tokens
  pub spelled : SpelledBy text tokens source

-- ---- what may be wrong with the tokens of a text; behind the last one stands the end of the text, which counts as one more

-- token k is the first that is left out
pub record LeftOutAt (tokens : List Token) (k : ℕ) : Type 0 where
  pub out : is_left_out tokens k ≡ true
  pub first : (n : ℕ) → n < k → is_left_out tokens n ≡ false

-- token k is the first one with which no list that the grammar derives goes on, and no token is left out
pub record HasSyntaxFault (tokens : List Token) (k : ℕ) : Type 0 where
  pub kept : NoneLeftOut tokens
  pub fault : SyntaxAt verilog.rule (phrase_of rule.Text) (terminals tokens) k

-- with token k a list that the grammar derives goes on, but none within the limit on depth; and no token is left out
pub record IsTooDeep (tokens : List Token) (k : ℕ) : Type 0 where
  pub kept : NoneLeftOut tokens
  pub fault : TooDeepAt verilog.rule (phrase_of rule.Text) depth_limit (terminals tokens) k
