-- Parts of rules that are read alone, and what each stands for.
use Rattle.std.specs.Prelude.{ℕ, Bool, true, false, Option, None, List, [], ◌∷◌, map}
use Rattle.vs_lexer.specs.declared.token.TokenKind.TheVariants as kind
use Rattle.vs_grammar.specs.Grammars.{Phrase, opt, star}
use Rattle.vs_grammar.specs.Grammars.Phrase.{last}
use Rattle.vs_grammar.specs.Grammars.Tree.{leaf, both, former, latter, nested, named}
use Rattle.vs_grammar.specs.Kinds.{number_of, numbers_of}
use Rattle.vs_grammar.specs.Verilog.{◌⨾◌, ◌∣◌, t, r, separated}
use Rattle.vs_grammar.specs.Verilog as grammar
use Rattle.vs_grammar.specs.Verilog.{Rule as rule}
use Rattle.vs_grammar.specs.Trees.{Expr, Declarator, Item, SignalKind, ParametersItem, Input, InputWire, Output, OutputWire, OutputReg, Connections, Unconnected, ByOrder, Event, Any, EventControl, Star, Listed, GenerateBlock, GenerateArms, BlockFallback}
use Rattle.vs_grammar.specs.Meaning.{D, list_of, expr_of, plain_name, valued_of, names_of, parameters_of, setting_of, name_of, event_of, each_onto, behind_sign, block_of, generate_arms, default_block}
use Rattle.vs_ast.specs.Views as view
use Rattle.vs_ast.specs.declared.items.GenerateArm.{GenerateArm}
use Rattle.vs_parser.specs.declared.items.GenerateParts.{GenerateParts}

-- ---- declarations and items

abbrev pub generate_item_kinds : List ℕ
generate_item_kinds = numbers_of grammar.generate_item_firsts

abbrev pub item_kinds : List ℕ
item_kinds = numbers_of grammar.item_firsts

abbrev pub block_kinds : List ℕ
block_kinds = numbers_of (kind.KeywordBegin ∷ kind.Semicolon ∷ grammar.generate_item_firsts)

-- a port that is a variable, whose names may have initial values
abbrev pub is_variable : SignalKind → Bool
is_variable OutputReg = true
is_variable _ = false

-- a name of a port, where it is a variable and where not
abbrev pub port_name : Bool → Phrase
port_name true = grammar.valued_name
port_name false = t kind.Identifier

abbrev pub port_name_of : (v : Bool) → (ℕ → List ℕ) → D (port_name v) → Declarator
port_name_of true b n = valued_of b n
port_name_of false b n = plain_name b n

abbrev pub port_names : Bool → Phrase
port_names true = separated grammar.valued_name
port_names false = r rule.Names

abbrev pub port_names_of : (v : Bool) → (ℕ → List ℕ) → D (port_names v) → List Declarator
port_names_of true b l = list_of (valued_of b) l
port_names_of false b l = names_of b l

-- what a port is, by the word `wire` behind its direction
abbrev pub input_kind : Bool → SignalKind
input_kind true = InputWire
input_kind false = Input

abbrev pub output_kind : Bool → SignalKind
output_kind true = OutputWire
output_kind false = Output

abbrev pub parameters_item : Phrase
parameters_item = t kind.KeywordParameter ⨾ r rule.ValueType ⨾ separated (r rule.Setting) ⨾ t kind.Semicolon

abbrev pub parameters_item_tree : (ℕ → List ℕ) → D parameters_item → Item
parameters_item_tree b (both (leaf a) (both y (both l z))) = ParametersItem (parameters_of b a.place false y (list_of (setting_of b) l))

-- ---- instances

-- a list by order with nothing alone in it
abbrev pub is_nothing : List (Option Expr) → Bool
is_nothing (None ∷ []) = true
is_nothing parts = false

abbrev pub by_order : List (Option Expr) → Connections
by_order (None ∷ []) = Unconnected
by_order parts = ByOrder parts

-- ---- event controls

abbrev pub edge_words : Phrase
edge_words = opt (t kind.KeywordPosedge ∣ t kind.KeywordNegedge)

abbrev pub event_kinds : List ℕ
event_kinds = numbers_of (kind.KeywordOr ∷ kind.Comma ∷ [])

abbrev pub event_sign : Phrase
event_sign = t kind.KeywordOr ∣ t kind.Comma

abbrev pub nothing_of : D event_sign → Unit {0}
nothing_of d = tt

abbrev pub events_behind : Phrase
events_behind = star (event_sign ⨾ r rule.Event)

abbrev pub events : Phrase
events = r rule.Event ⨾ events_behind

abbrev pub events_of : (ℕ → List ℕ) → D events → List Event
events_of b (both e l) = event_of b e ∷ each_onto (behind_sign (event_of b)) l []

abbrev pub single_event : (ℕ → List ℕ) → D (t kind.Identifier) → EventControl
single_event b n = Listed (record { edge = Any; name = name_of b n } ∷ [])

abbrev pub inner_control : Phrase
inner_control = t kind.Star ∣ events

abbrev pub inner_control_of : (ℕ → List ℕ) → D inner_control → EventControl
inner_control_of b (former s) = Star
inner_control_of b (latter l) = Listed (events_of b l)

abbrev pub bracketed_control_of : (ℕ → List ℕ) → D grammar.event_list → EventControl
bracketed_control_of b (both o (both i z)) = inner_control_of b i

abbrev pub control : Phrase
control = t kind.Identifier ∣ t kind.Star ∣ grammar.event_list

abbrev pub control_of : (ℕ → List ℕ) → D control → EventControl
control_of b (former n) = single_event b n
control_of b (latter (former s)) = Star
control_of b (latter (latter d)) = bracketed_control_of b d

-- ---- generate constructs

abbrev pub other_block : Phrase
other_block = last (number_of kind.KeywordElse) (r rule.GenerateBlock)

abbrev pub enclosed_tree : (ℕ → List ℕ) → D grammar.block → GenerateBlock
enclosed_tree b d = block_of b (named (nested (former d)))

-- an arm of a generate case: its labels and its block
abbrev pub generate_arm_of : (ℕ → List ℕ) → D (r rule.GenerateCaseItem) → List Expr × GenerateBlock
generate_arm_of b (named (both l (both c x))) = (list_of (expr_of b) l, block_of b x)

abbrev pub generate_arm_view : GenerateArm → List Expr × GenerateBlock
generate_arm_view a = (map view.expr a.labels.items, view.block a.block)

-- the arms of a generate case, and its default
abbrev pub generate_cases_of : (ℕ → List ℕ) → D (r rule.GenerateCases) → GenerateArms × BlockFallback
generate_cases_of b d = (generate_arms b d, default_block b d)

abbrev pub generate_cases_view : GenerateParts → GenerateArms × BlockFallback
generate_cases_view c = (view.generate_arms c.arms.items, view.block_fallback c.other)
