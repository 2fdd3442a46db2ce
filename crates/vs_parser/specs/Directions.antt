-- The words that a declaration of ports begins with.
use Rattle.std.specs.Prelude.{◌≡◌, ℕ, false, [], ◌∷◌, List}
use Rattle.vs_lexer.specs.declared.token.Token.{Token}
use Rattle.vs_lexer.specs.declared.token.TokenKind.TheVariants as kind
use Rattle.vs_grammar.specs.Grammars.{Phrase, opt}
use Rattle.vs_grammar.specs.Kinds.{number_of}
use Rattle.vs_grammar.specs.Predictive.{is_member}
use Rattle.vs_grammar.specs.Verilog.{t, port_declaration}
use Rattle.vs_grammar.specs.Trees.{SignalKind, OutputReg}
use Rattle.vs_grammar.specs.Meaning.{D, input_kind, output_kind}
use Rattle.vs_statements.specs.declared.error.ParseError.{ParseError}
use Rattle.vs_statements.specs.Reading.{kind_at, Took, Read, Refused}

-- from place i up to place k stand the words of this kind of port, where d levels are around them
pub data Directed (ts : List Token) (d i : ℕ) : SignalKind → ℕ → Type 0 where
  an_input : {j k : ℕ} (w : D (opt (t kind.KeywordWire))) → Took ts (number_of kind.KeywordInput) i j → Read ts d (opt (t kind.KeywordWire)) w j k → Directed ts d i (input_kind w) k
  an_output :
      {j k : ℕ} (w : D (opt (t kind.KeywordWire))) → Took ts (number_of kind.KeywordOutput) i j → is_member (kind_at ts j) (number_of kind.KeywordReg ∷ []) ≡ false →
      Read ts d (opt (t kind.KeywordWire)) w j k → Directed ts d i (output_kind w) k
  an_output_reg : {j k : ℕ} → Took ts (number_of kind.KeywordOutput) i j → Took ts (number_of kind.KeywordReg) j k → Directed ts d i OutputReg k

-- no such words stand at place i, whatever may follow them
abbrev pub HasNoDirection : List Token → ℕ → ℕ → ParseError → Type 0
HasNoDirection ts d i e = (x y : Phrase) → Refused ts d (port_declaration x y) i e
