-- The outputs of a text's top, by their names (IEEE 1364-2005, 12.3.3 and 12.3.4).
use Rattle.std.specs.Prelude.{◌≡◌, ℕ, Bool, true, false, List, [], ◌++◌, map, flat_map, if◌then◌else◌, Option, Some, None}
use Rattle.vs_grammar.specs.Trees as tree
use Rattle.vs_grammar.specs.Trees.{items_list}
use Rattle.vs_tops.specs.Tops.{top_name}
use Rattle.vs_tops.specs.Designs.{named_module}
use Rattle.vs_lexer.specs.declared.token.Token.{Token}
use Rattle.vs_accept.specs.Accepted.{IsRead}
use Rattle.vs_accept.specs.Lent.{Acceptance}

-- whether it declares an output port, `output wire` and `output reg` too
abbrev pub is_output : tree.SignalKind → Bool
is_output tree.Output = true
is_output tree.OutputWire = true
is_output tree.OutputReg = true
is_output _ = false

-- the names of declarators
abbrev pub names_in : List tree.Declarator → List (List ℕ)
names_in ds = map (λ (d : tree.Declarator). d.name.bytes) ds

-- the names of a declaration, if it is one of outputs
abbrev pub outputs_in : tree.Signals → List (List ℕ)
outputs_in t = if is_output t.kind then names_in t.names else []

-- of an item of a module's body
abbrev pub item_outputs : tree.Item → List (List ℕ)
item_outputs (tree.SignalsItem t) = outputs_in t
item_outputs _ = []

-- of a header that declares its ports
abbrev pub header_outputs : tree.Header → List (List ℕ)
header_outputs (tree.DeclaredPorts ports) = flat_map outputs_in ports
header_outputs _ = []

-- of a module
abbrev pub module_outputs : tree.Module → List (List ℕ)
module_outputs m = header_outputs m.header ++ flat_map item_outputs (items_list m.items)

-- of the module of this name, if there is one
abbrev pub named_outputs : tree.Source → Option (List ℕ) → List (List ℕ)
named_outputs source name = elim (named_module source name) [ None ↦ [] | Some m ↦ module_outputs m ]

-- of the module that is the top, where this one is given or none
abbrev pub top_outputs : tree.Source → Option (List ℕ) → List (List ℕ)
top_outputs source top = named_outputs source (top_name source top)

-- these are the names of the outputs of a tree that the text is read as
pub record HaveOutputs (text : List ℕ) (top : Option (List ℕ)) (a : Acceptance) : Type 0 where
  pub tokens : List Token
  pub source : tree.Source
  pub read : IsRead text tokens source
  pub outputs_are : a.outputs ≡ top_outputs source top

-- A text is read as one tree at most.
abbrev pub OneReading : Type 0
OneReading = (text : List ℕ) (tokens others : List Token) (source other : tree.Source) → IsRead text tokens source → IsRead text others other → source ≡ other
