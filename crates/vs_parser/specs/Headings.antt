-- The headers of modules: parts of rules that are read alone, and what is read of them.
use Rattle.std.specs.Prelude.{◌≡◌, ℕ, ◌-◌, ◌≤◌, Bool, true, false, Option, List, [], ◌∷◌, ◌++◌, length}
use Rattle.vs_lexer.specs.declared.token.TokenKind.TheVariants as kind
use Rattle.vs_grammar.specs.Grammars.{Phrase, opt, star}
use Rattle.vs_grammar.specs.Grammars.Phrase.{eps}
use Rattle.vs_grammar.specs.Grammars.Tree.{leaf, both, former, latter, grown}
use Rattle.vs_grammar.specs.Verilog.{◌⨾◌, ◌∣◌, t, r}
use Rattle.vs_grammar.specs.Verilog.{Rule as rule}
use Rattle.vs_grammar.specs.Trees.{Signals, Declarator, Parameters, Setting, ValueType, RangeTree, SignalKind, Header, NoPorts}
use Rattle.vs_grammar.specs.Meaning.{D, ports_from, net_names, net_ports, variable_names, variable_ports, ports_of, parameters_of, setting_of, parameters_onto}
use Rattle.vs_statements.specs.declared.input.Input.{Input}
use Rattle.vs_statements.specs.declared.error.ParseError.{ParseError}
use Rattle.vs_statements.specs.Reading.{Read, Grown, Refused, Parsed, bytes_in}
use Rattle.vs_parser.specs.Parts.{is_variable, port_name, port_name_of}

abbrev pub with_names : Signals → List Declarator → Signals
with_names s names = record s { names = s.names ++ names }

abbrev pub with_settings : Parameters → List Setting → Parameters
with_settings p settings = record p { settings = p.settings ++ settings }

-- a declaration in a header, with one parameter
abbrev pub declaration : ℕ → ValueType → Setting → Parameters
declaration place value_type first = record { place = place; is_local = false; value_type = value_type; settings = first ∷ [] }

-- the same with any settings
abbrev pub declaration_of : ℕ → ValueType → List Setting → Parameters
declaration_of place value_type settings = record { place = place; is_local = false; value_type = value_type; settings = settings }

-- a declaration of signals
abbrev pub signals_with : ℕ → SignalKind → Bool → Option RangeTree → List Declarator → Signals
signals_with place kind signed range names = record { place = place; kind = kind; signed = signed; range = range; names = names }

abbrev pub next_declaration : Phrase
next_declaration = t kind.KeywordParameter ⨾ r rule.ValueType ⨾ r rule.Setting

abbrev pub next_declaration_of : (ℕ → List ℕ) → D next_declaration → Parameters
next_declaration_of b (both (leaf a) (both w u)) = parameters_of b a.place false w (setting_of b u ∷ [])

abbrev pub parameter_step : Phrase
parameter_step = next_declaration ∣ r rule.Setting

abbrev pub more_parameters : Phrase
more_parameters = star (t kind.Comma ⨾ parameter_step)

-- what may stand behind a name of a port, where the port is a variable and where not
abbrev pub tail : Bool → Phrase
tail true = r rule.VariablePorts
tail false = r rule.NetPorts

-- the names there that share the declaration of the one in front, and the declarations behind them
abbrev pub names_behind : (v : Bool) → (ℕ → List ℕ) → D (tail v) → List Declarator
names_behind true b l = variable_names b l
names_behind false b l = net_names b l

abbrev pub ports_behind : (v : Bool) → (ℕ → List ℕ) → D (tail v) → List Signals
ports_behind true b l = variable_ports b l
ports_behind false b l = net_ports b l

-- what stands there behind a comma
abbrev pub port_step : Bool → Phrase
port_step v = r rule.Port ∣ (port_name v ⨾ tail v)

abbrev pub step_names : (v : Bool) → (ℕ → List ℕ) → D (port_step v) → List Declarator
step_names v b (former p) = []
step_names v b (latter (both n l)) = port_name_of v b n ∷ names_behind v b l

abbrev pub step_ports : (v : Bool) → (ℕ → List ℕ) → D (port_step v) → List Signals
step_ports v b (former p) = ports_from b p
step_ports v b (latter (both n l)) = ports_behind v b l

abbrev pub header : Phrase
header = opt (t kind.OpenParen ⨾ opt (r rule.Ports) ⨾ t kind.CloseParen)

abbrev pub optional_ports_of : (ℕ → List ℕ) → D (opt (r rule.Ports)) → Header
optional_ports_of b (former p) = ports_of b p
optional_ports_of b (latter z) = NoPorts

abbrev pub module_parameters : Phrase
module_parameters = opt (t kind.Hash ⨾ t kind.OpenParen ⨾ r rule.HeaderParameters ⨾ t kind.CloseParen)

-- the declarations from one on that has these names more behind it
abbrev pub ports_with : Signals → List Declarator → List Signals → List Signals
ports_with s names ports = with_names s names ∷ ports

-- A port is read up to its first name, and stands for this declaration: with what is read behind the name, it is all of a list of ports, and what is
-- refused there refuses the list.
pub record PortRead (input : Input) (d i : ℕ) (value : Signals) (j : ℕ) : Type 0 where
  pub read :
      (l : D (tail (is_variable value.kind))) (k : ℕ) → Read input.tokens.now d (tail (is_variable value.kind)) l j k →
      Parsed input (r rule.Port) ports_from d i (ports_with value (names_behind (is_variable value.kind) (bytes_in input) l) (ports_behind (is_variable value.kind) (bytes_in input) l)) k
  pub refused : (e : ParseError) → Refused input.tokens.now d (tail (is_variable value.kind)) j e → Refused input.tokens.now d (r rule.Port) i e
  pub further : length input.tokens.now - j ≤ length input.tokens.now - i

-- behind a comma, after these declarations and this last one, this is read, and all of them are these
pub record StepRead (input : Input) (list : List Signals) (last : Signals) (d i : ℕ) (all : List Signals) (k : ℕ) : Type 0 where
  pub tree : D (port_step (is_variable last.kind))
  pub read : Read input.tokens.now d (port_step (is_variable last.kind)) tree i k
  pub made : list ++ ports_with last (step_names (is_variable last.kind) (bytes_in input) tree) (step_ports (is_variable last.kind) (bytes_in input) tree) ≡ all

-- a further port, up to its first name, or a further name, behind these declarations and this last one
pub record PortsStep (input : Input) (list : List Signals) (last : Signals) (d i : ℕ) (longer : List Signals) (next : Signals) (j : ℕ) : Type 0 where
  pub read :
      (l : D (tail (is_variable next.kind))) (k : ℕ) → Read input.tokens.now d (tail (is_variable next.kind)) l j k →
      StepRead input list last d i (longer ++ ports_with next (names_behind (is_variable next.kind) (bytes_in input) l) (ports_behind (is_variable next.kind) (bytes_in input) l)) k
  pub refused : (e : ParseError) → Refused input.tokens.now d (tail (is_variable next.kind)) j e → Refused input.tokens.now d (port_step (is_variable last.kind)) i e
  pub further : length input.tokens.now - j ≤ length input.tokens.now - i

-- all that stands behind the first name of the first port
pub record PortsRead (input : Input) (first : Signals) (d i : ℕ) (all : List Signals) (k : ℕ) : Type 0 where
  pub tree : D (tail (is_variable first.kind))
  pub read : Read input.tokens.now d (tail (is_variable first.kind)) tree i k
  pub made : ports_with first (names_behind (is_variable first.kind) (bytes_in input) tree) (ports_behind (is_variable first.kind) (bytes_in input) tree) ≡ all

-- as far as these have been read there
pub record PortsGrown (input : Input) (first : Signals) (d i : ℕ) (list : List Signals) (last : Signals) (j : ℕ) : Type 0 where
  pub read :
      (l : D (tail (is_variable last.kind))) (k : ℕ) → Read input.tokens.now d (tail (is_variable last.kind)) l j k →
      PortsRead input first d i (list ++ ports_with last (names_behind (is_variable last.kind) (bytes_in input) l) (ports_behind (is_variable last.kind) (bytes_in input) l)) k
  pub refused : (e : ParseError) → Refused input.tokens.now d (tail (is_variable last.kind)) j e → Refused input.tokens.now d (tail (is_variable first.kind)) i e

-- the same of the parameters of a header
abbrev pub GivesParameters : (ℕ → List ℕ) → ℕ → D (r rule.ValueType) → D (r rule.Setting) → D more_parameters → List Parameters → Parameters → Type 0
GivesParameters b place y s l list last = (settings : List Setting) (rest : List Parameters) → parameters_onto b place y s l settings rest ≡ list ++ (with_settings last settings ∷ rest)

pub record ParametersStep (input : Input) (list : List Parameters) (last : Parameters) (d i : ℕ) (longer : List Parameters) (next : Parameters) (j : ℕ) : Type 0 where
  pub tree : D parameter_step
  pub read : Read input.tokens.now d parameter_step tree i j
  pub made : (place : ℕ) (y : D (r rule.ValueType)) (s : D (r rule.Setting)) (l : D more_parameters) (c : D (t kind.Comma)) → GivesParameters (bytes_in input) place y s l list last → GivesParameters (bytes_in input) place y s (grown l (both c tree)) longer next

pub record ParametersGrown (input : Input) (first : Parameters) (d i : ℕ) (list : List Parameters) (last : Parameters) (j : ℕ) : Type 0 where
  pub tree : D more_parameters
  pub grown : Grown input.tokens.now d false eps (t kind.Comma ⨾ parameter_step) tree i j
  pub made : (place : ℕ) (y : D (r rule.ValueType)) (s : D (r rule.Setting)) → ((settings : List Setting) → parameters_of (bytes_in input) place false y (setting_of (bytes_in input) s ∷ settings) ≡ with_settings first settings) → GivesParameters (bytes_in input) place y s tree list last

pub record ParametersRead (input : Input) (first : Parameters) (d i : ℕ) (list : List Parameters) (j : ℕ) : Type 0 where
  pub tree : D more_parameters
  pub read : Read input.tokens.now d more_parameters tree i j
  pub made : (place : ℕ) (y : D (r rule.ValueType)) (s : D (r rule.Setting)) → ((settings : List Setting) → parameters_of (bytes_in input) place false y (setting_of (bytes_in input) s ∷ settings) ≡ with_settings first settings) → parameters_onto (bytes_in input) place y s tree [] [] ≡ list
