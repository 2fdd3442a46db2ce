-- Functions: parts of rules that are read alone, and what is read of them.
use Rattle.std.specs.Prelude.{◌≡◌, ℕ, false, List, [], ◌∷◌, ◌++◌, map}
use Rattle.vs_lexer.specs.declared.token.TokenKind.TheVariants as kind
use Rattle.vs_grammar.specs.Grammars.{Phrase, star}
use Rattle.vs_grammar.specs.Grammars.Phrase.{eps}
use Rattle.vs_grammar.specs.Grammars.Tree.{both, former, latter, grown, named}
use Rattle.vs_grammar.specs.Kinds.{numbers_of}
use Rattle.vs_grammar.specs.Verilog.{◌⨾◌, ◌∣◌, t, r}
use Rattle.vs_grammar.specs.Verilog as grammar
use Rattle.vs_grammar.specs.Verilog.{Rule as rule}
use Rattle.vs_grammar.specs.Trees.{Name, ValueType, Variables}
use Rattle.vs_grammar.specs.Meaning.{D, each_onto, variables_of, input_of, inputs_onto, inputs_of, declared_inputs, declared_variables, head_inputs, head_variables}
use Rattle.vs_ast.specs.Views as view
use Rattle.vs_parser.specs.declared.functions.FunctionParts.{FunctionParts}
use Rattle.vs_statements.specs.declared.input.Input.{Input}
use Rattle.vs_statements.specs.Reading.{Read, Grown, bytes_in}

-- ---- inputs in brackets

abbrev pub with_names : Variables → List Name → Variables
with_names v names = record v { names = v.names ++ names }

-- a declaration
abbrev pub variables_with : ℕ → ValueType → List Name → Variables
variables_with place value_type names = record { place = place; value_type = value_type; names = names }

abbrev pub input_step : Phrase
input_step = r rule.FunctionInput ∣ t kind.Identifier

abbrev pub more_inputs : Phrase
more_inputs = star (t kind.Comma ⨾ input_step)

-- an input is read, and stands for this declaration of one name, to which others may be added
pub record InputRead (input : Input) (d i : ℕ) (value : Variables) (j : ℕ) : Type 0 where
  pub tree : D (r rule.FunctionInput)
  pub read : Read input.tokens.now d (r rule.FunctionInput) tree i j
  pub made : (names : List Name) → input_of (bytes_in input) tree names ≡ with_names value names

-- what stands behind the first input, as far as `l`, gives these declarations and this last one
abbrev pub GivesInputs : (ℕ → List ℕ) → D (r rule.FunctionInput) → D more_inputs → List Variables → Variables → Type 0
GivesInputs b p l list last = (names : List Name) (rest : List Variables) → inputs_onto b p l names rest ≡ list ++ (with_names last names ∷ rest)

-- a further input or name, behind these declarations and this last one
pub record InputsStep (input : Input) (list : List Variables) (last : Variables) (d i : ℕ) (longer : List Variables) (next : Variables) (j : ℕ) : Type 0 where
  pub tree : D input_step
  pub read : Read input.tokens.now d input_step tree i j
  pub made : (p : D (r rule.FunctionInput)) (l : D more_inputs) (c : D (t kind.Comma)) → GivesInputs (bytes_in input) p l list last → GivesInputs (bytes_in input) p (grown l (both c tree)) longer next

-- as far as these have been read behind the first input
pub record InputsGrown (input : Input) (first : Variables) (d i : ℕ) (list : List Variables) (last : Variables) (j : ℕ) : Type 0 where
  pub tree : D more_inputs
  pub grown : Grown input.tokens.now d false eps (t kind.Comma ⨾ input_step) tree i j
  pub made : (p : D (r rule.FunctionInput)) → ((names : List Name) → input_of (bytes_in input) p names ≡ with_names first names) → GivesInputs (bytes_in input) p tree list last

-- all that stand behind the first input
pub record InputsRead (input : Input) (first : Variables) (d i : ℕ) (list : List Variables) (j : ℕ) : Type 0 where
  pub tree : D more_inputs
  pub read : Read input.tokens.now d more_inputs tree i j
  pub made : (p : D (r rule.FunctionInput)) → ((names : List Name) → input_of (bytes_in input) p names ≡ with_names first names) → inputs_onto (bytes_in input) p tree [] [] ≡ list

-- ---- the inputs of a function, and its own variables

-- inputs, and variables
abbrev pub Parts : Type 0
Parts = List Variables × List Variables

abbrev pub parts_view : FunctionParts → Parts
parts_view p = (map view.variables p.inputs.items, map view.variables p.variables.items)

abbrev pub in_brackets_of : (ℕ → List ℕ) → D grammar.inputs_in_brackets → Parts
in_brackets_of b (both o (both l (both c (both s v)))) = (inputs_of b l, each_onto (variables_of b) v [])

abbrev pub declared_of : (ℕ → List ℕ) → D (star (r rule.FunctionDeclaration)) → Parts
declared_of b l = (declared_inputs b l [], declared_variables b l [])

abbrev pub behind_of : (ℕ → List ℕ) → D grammar.inputs_behind → Parts
behind_of b (both s l) = declared_of b l

abbrev pub head_of : (ℕ → List ℕ) → D (r rule.FunctionHead) → Parts
head_of b d = (head_inputs b d, head_variables b d)

-- what a declaration of a function begins with that has its inputs among its variables
abbrev pub declaration_kinds : List ℕ
declaration_kinds = numbers_of (kind.KeywordInput ∷ grammar.variable_firsts)

-- these declarations give these inputs and variables
pub record GivesParts (b : ℕ → List ℕ) (l : D (star (r rule.FunctionDeclaration))) (parts : Parts) : Type 0 where
  pub inputs : (rest : List Variables) → declared_inputs b l rest ≡ parts.0 ++ rest
  pub variables : (rest : List Variables) → declared_variables b l rest ≡ parts.1 ++ rest

-- a further declaration, behind those that give these
pub record DeclarationStep (input : Input) (before : Parts) (d i : ℕ) (after : Parts) (j : ℕ) : Type 0 where
  pub tree : D (r rule.FunctionDeclaration)
  pub read : Read input.tokens.now d (r rule.FunctionDeclaration) tree i j
  pub made : (l : D (star (r rule.FunctionDeclaration))) → GivesParts (bytes_in input) l before → GivesParts (bytes_in input) (grown l tree) after

-- as far as declarations have been read
pub record DeclarationsGrown (input : Input) (d i : ℕ) (parts : Parts) (j : ℕ) : Type 0 where
  pub tree : D (star (r rule.FunctionDeclaration))
  pub grown : Grown input.tokens.now d false eps (r rule.FunctionDeclaration) tree i j
  pub made : GivesParts (bytes_in input) tree parts
