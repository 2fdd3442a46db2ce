-- Reading by places: the terminals from a token on, and what is read or refused there.
use Rattle.std.specs.Prelude.{◌≡◌, ℕ, ◌+◌, ◌<◌, ◌≤◌, Bool, true, false, List, [], ◌∷◌, ◌++◌, ◌⊎◌, drop, length, map, max, Result, MatchResult}
use Rattle.vs_lexer.specs.declared.token.Token.{Token}
use Rattle.vs_lexer.specs.Cuts.{spelling_of}
use Rattle.vs_lexer.specs.declared.token.TokenKind.{TokenKind}
use Rattle.vs_lexer.specs.declared.token.TokenKind.TheVariants as kind
use Rattle.vs_grammar.specs.Grammars.{Phrase, Terminal, depth, star}
use Rattle.vs_grammar.specs.Grammars.Phrase.{tok, eps, many}
use Rattle.vs_grammar.specs.Grammars.Tree.{leaf}
use Rattle.vs_grammar.specs.Predictive.{is_member, firsts_of, Reads, Grows, Stops, Sinks}
use Rattle.vs_grammar.specs.Kinds.{number_of, end_of_text, terminals_from}
use Rattle.vs_grammar.specs.Verilog.{Rule as rule, ◌⨾◌, verilog, t, r}
use Rattle.vs_grammar.specs.Trees.{Name, Expr, BinaryOp}
use Rattle.vs_grammar.specs.Meaning.{D, first_place, each_onto, behind_sign, name_at, expr_of}
use Rattle.vs_ast.specs.declared.expressions.Expr.{Expr as ExprNode}
use Rattle.vs_ast.specs.declared.names.Name.{Name as NameNode}
use Rattle.vs_ast.specs.Views as view
use Rattle.vs_statements.specs.declared.depth.Depth.{Depth}
use Rattle.vs_statements.specs.declared.input.Input.{Input}
use Rattle.vs_statements.specs.declared.input.Found.{Found}
use Rattle.vs_statements.specs.declared.input.Nested.{Nested}
use Rattle.vs_statements.specs.declared.error.ParseError.{ParseError}
use Rattle.vs_statements.specs.declared.error.ParseError.TheVariants.{Syntax, TooDeep, Memory}

-- ---- places

abbrev pub first_kind : List Token → ℕ
first_kind [] = end_of_text
first_kind (t ∷ ts) = number_of t.kind

-- the kind at place i, which behind the last token is the end
unfoldable pub kind_at : List Token → ℕ → ℕ
kind_at ts i = first_kind (drop i ts)

-- the terminals from place i on
unfoldable pub from : List Token → ℕ → List Terminal
from ts i = terminals_from i (drop i ts)

-- the terminal at place i
abbrev pub terminal_at : List Token → ℕ → Terminal
terminal_at ts i = record { kind = kind_at ts i; place = i }

-- ---- what is read

-- a token of kind k stands at place i, and j is the place behind it
pub record Took (ts : List Token) (k i j : ℕ) : Type 0 where
  pub reads : Reads verilog (tok k) (from ts i) (leaf (terminal_at ts i)) (from ts j)
  pub next : j ≡ i + 1

-- x is read from place i up to place j, with this derivation, which has at most 200 levels where d are around it
pub record Read (ts : List Token) (d : ℕ) (x : Phrase) (a : D x) (i j : ℕ) : Type 0 where
  pub reads : Reads verilog x (from ts i) a (from ts j)
  pub fits : d + depth a ≤ 200

-- the same of a loop that is under way
pub record Grown (ts : List Token) (d : ℕ) (b : Bool) (x y : Phrase) (a : D (many b x y)) (i j : ℕ) : Type 0 where
  pub grows : Grows verilog b x y (from ts i) a (from ts j)
  pub fits : d + depth a ≤ 200

-- ---- what is refused

-- x stops at place i, or there is no memory
pub data Missing (ts : List Token) (x : Phrase) (i : ℕ) : ParseError → Type 0 where
  missing : {k : ℕ} → Stops verilog x (from ts i) (from ts k) → Missing ts x i (Syntax k)
  no_memory : Missing ts x i Memory

-- x, with d levels around it, stops, or is too deep, or there is no memory
pub data Refused (ts : List Token) (d : ℕ) (x : Phrase) (i : ℕ) : ParseError → Type 0 where
  stopped : {k : ℕ} → Stops verilog x (from ts i) (from ts k) → Refused ts d x i (Syntax k)
  too_deep : {k n : ℕ} → Sinks verilog x (from ts i) (from ts k) n → 200 < d + n → Refused ts d x i (TooDeep k)
  out_of_memory : Refused ts d x i Memory

-- ---- answers

-- the bytes of each token
abbrev pub bytes_in : Input → ℕ → List ℕ
bytes_in input = spelling_of input.text.now input.tokens.now

-- x is read from place i up to place j, within the limit on levels where d are around it, and stands for this value
pub record Parsed {A : Type 0} (input : Input) (x : Phrase) (of : (ℕ → List ℕ) → D x → A) (d i : ℕ) (value : A) (j : ℕ) : Type 0 where
  pub tree : D x
  pub read : Read input.tokens.now d x tree i j
  pub made : of (bytes_in input) tree ≡ value

-- ---- lists

-- as far as a loop over x has come, which started at place i with the list `before`
pub record Listing {A T : Type 0} (input : Input) (x : Phrase) (of : (ℕ → List ℕ) → D x → A) (view : T → A) (d : ℕ) (before : List T) (i : ℕ) (list : List T) (j : ℕ) : Type 0 where
  pub tree : D (star x)
  pub grown : Grown input.tokens.now d false eps x tree i j
  pub made : (rest : List A) → map view before ++ each_onto (of (bytes_in input)) tree rest ≡ map view list ++ rest

-- as far as a list of x with commas between them has been read
pub record Listed {A T : Type 0} (input : Input) (x : Phrase) (of : (ℕ → List ℕ) → D x → A) (view : T → A) (d i : ℕ) (list : List T) (j : ℕ) : Type 0 where
  pub first : D x
  pub middle : ℕ
  pub read : Read input.tokens.now d x first i middle
  pub tree : D (star (t kind.Comma ⨾ x))
  pub grown : Grown input.tokens.now d false eps (t kind.Comma ⨾ x) tree middle j
  pub made : (rest : List A) → of (bytes_in input) first ∷ each_onto (behind_sign (of (bytes_in input))) tree rest ≡ map view list ++ rest

-- ---- a token out of several

abbrev pub kinds_in : {T : Type 0} → List (TokenKind × T) → List ℕ
kinds_in [] = []
kinds_in (e ∷ rest) = number_of e.0 ∷ kinds_in rest

-- beside the kind n the table has this
abbrev pub IsBeside : {T : Type 0} → ℕ → T → List (TokenKind × T) → Type 0
IsBeside n v [] = ⊥
IsBeside n v (e ∷ rest) = ((n ≡ number_of e.0) × (v ≡ e.1)) ⊎ IsBeside n v rest

-- what one table has beside the kind n, the other has too
abbrev pub AllBeside : {T : Type 0} → ℕ → List (TokenKind × T) → List (TokenKind × T) → Type 0
AllBeside {T} n some all = (v : T) → IsBeside n v some → IsBeside n v all

pub record Picked {T : Type 0} (ts : List Token) (table : List (TokenKind × T)) (i : ℕ) (v : T) (j : ℕ) : Type 0 where
  pub beside : IsBeside (kind_at ts i) v table
  pub next : j ≡ i + 1
  pub inside : i < length ts

-- one token is read as x, and stands for this value
pub record Chosen {A : Type 0} (ts : List Token) (x : Phrase) (of : D x → A) (i : ℕ) (value : A) (j : ℕ) : Type 0 where
  pub tree : D x
  pub reads : Reads verilog x (from ts i) tree (from ts j)
  pub sinks : Sinks verilog x (from ts i) (from ts i) 0
  pub flat : depth tree ≡ 0
  pub first : first_place tree ≡ i
  pub here : is_member (kind_at ts i) (firsts_of verilog x) ≡ true
  pub made : of tree ≡ value

-- ---- expressions

-- the same as `Parsed`, with the number of levels of what was read
pub record Measured {A : Type 0} (input : Input) (x : Phrase) (of : (ℕ → List ℕ) → D x → A) (d i : ℕ) (value : A) (j height : ℕ) : Type 0 where
  pub tree : D x
  pub read : Read input.tokens.now d x tree i j
  pub made : of (bytes_in input) tree ≡ value
  pub high : depth tree ≡ height

-- as far as operators and their right operands have been read behind a first operand
pub record Growing (input : Input) (o y : Phrase) (op : D o → BinaryOp) (of : (ℕ → List ℕ) → D y → Expr) (chain : (ℕ → List ℕ) → D (many true y (o ⨾ y)) → Expr) (d i : ℕ) (value : Expr) (j height : ℕ) : Type 0 where
  pub tree : D (many true y (o ⨾ y))
  pub grown : Grown input.tokens.now d true y (o ⨾ y) tree i j
  pub made : chain (bytes_in input) tree ≡ value
  pub high : depth tree ≡ height

-- a name
pub record Word (input : Input) (i : ℕ) (name : Name) (j : ℕ) : Type 0 where
  pub took : Took input.tokens.now (number_of kind.Identifier) i j
  pub made : name_at (bytes_in input) (terminal_at input.tokens.now i) ≡ name

-- expressions behind the first ones of a list, with the number of levels of all of them
pub record MeasuredList (input : Input) (first : List ExprNode) (first_height d i : ℕ) (list : List ExprNode) (j height : ℕ) : Type 0 where
  pub tree : D (star (t kind.Comma ⨾ r rule.Expression))
  pub read : Read input.tokens.now d (star (t kind.Comma ⨾ r rule.Expression)) tree i j
  pub made : (rest : List Expr) → map view.expr first ++ each_onto (behind_sign (expr_of (bytes_in input))) tree rest ≡ map view.expr list ++ rest
  pub high : height ≡ max first_height (depth tree)

-- as far as a loop over these has come
pub record Gathering (input : Input) (first : List ExprNode) (first_height d i : ℕ) (list : List ExprNode) (j height : ℕ) : Type 0 where
  pub tree : D (star (t kind.Comma ⨾ r rule.Expression))
  pub grown : Grown input.tokens.now d false eps (t kind.Comma ⨾ r rule.Expression) tree i j
  pub made : (rest : List Expr) → map view.expr first ++ each_onto (behind_sign (expr_of (bytes_in input))) tree rest ≡ map view.expr list ++ rest
  pub high : height ≡ max first_height (depth tree)

-- ---- what readers answer

-- at place i, at the depth d: x, which stands for the value as it is seen, or what refuses x
abbrev pub Answers : {A T : Type 0} (input : Input) (x : Phrase) → ((ℕ → List ℕ) → D x → A) → (T → A) → Depth → ℕ → Result (Found T) ParseError → Type 0
Answers input x of view d i r = MatchResult r (λ f. Parsed input x of d.value i (view f.value) f.to) (λ e. Refused input.tokens.now d.value x i e)

-- the same, with the number of levels of what was read
abbrev pub AnswersNested : {A T : Type 0} (input : Input) (x : Phrase) → ((ℕ → List ℕ) → D x → A) → (T → A) → Depth → ℕ → Result (Nested T) ParseError → Type 0
AnswersNested input x of view d i r = MatchResult r (λ f. Measured input x of d.value i (view f.value) f.to f.height) (λ e. Refused input.tokens.now d.value x i e)

-- a token of kind k stands at place i, and the place behind it is answered, or k is missing there
abbrev pub Takes : List Token → ℕ → ℕ → Result ℕ ParseError → Type 0
Takes ts k i r = MatchResult r (λ j. Took ts k i j) (λ e. Missing ts (tok k) i e)

-- a name stands at place i, or is missing there
abbrev pub Names : Input → ℕ → Result (Found NameNode) ParseError → Type 0
Names input i r = MatchResult r (λ f. Word input i (view.name f.value) f.to) (λ e. Missing input.tokens.now (t kind.Identifier) i e)
