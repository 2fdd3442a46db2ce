-- What holds of a call in a lawful design, in which nothing is over 64 bits or divided at run time.
use Rattle.std.specs.Prelude.{◌≡◌, ◌≤◌, ◌<◌, ◌+◌, ℕ, suc, true, List, length, map, Some, slice_get, All}
use Rattle.std.specs.List.{list_all}
use Rattle.vs_design.specs.Expressions as E
use Rattle.vs_design.specs.Statements.{Function}
use Rattle.vs_design.specs.Elaborated.{are_as_many}
use Rattle.vs_design.specs.Fits.{fit_items, fits_signal, fits_statement}
use Rattle.vs_design.specs.Sleepers.{at_once}
use Rattle.vs_design.specs.Within.{items_within, statement_within}
use Rattle.vs_flat.specs.declared.placed.Placed.{Placed}
use Rattle.vs_flat.specs.declared.statements.Statement as F
use Rattle.vs_flat.specs.declared.functions.Body.{Body}
use Rattle.vs_flat.specs.Arena.{Arena, body_at, bit_count, declared_at}
use Rattle.vs_flat.specs.DesignOf.{callee_of}
use Rattle.vs_flat.specs.Named.{locals_in, statement_names_below}
use Rattle.vs_sets.specs.declared.calls.Callee.{Callee}
use Rattle.vs_sets.specs.FitParts.{Is64}
use Rattle.vs_sets.specs.Nodes.{EachBelow, tree_of}
use Rattle.vs_sets.specs.StatementParts.{Covers, statement_of}

-- the function of this number
abbrev pub function_of : Arena → ℕ → Function
function_of a f = callee_of a (tree_of a) f

abbrev pub arguments_of : Arena → List ℕ → E.Items
arguments_of a es = E.items_of (map (tree_of a) es)

-- expression e is a call of this function with these arguments, and stands where there are so many bits
pub record IsCall (a : Arena) (bits e function : ℕ) (arguments : List ℕ) : Type 0 where
  pub there : function < length a.functions
  -- the arguments are earlier expressions, and so are all that the function's statement names
  pub before : EachBelow e arguments
  pub body_before : (b : Body) → body_at a function ≡ Some b → b.nodes ≤ e
  pub as_many : are_as_many (arguments_of a arguments) (function_of a function).header.inputs ≡ true
  pub result_fits : Is64 (E.signal_length (function_of a function).header.result)
  pub inputs_fit : list_all fits_signal (function_of a function).header.inputs ≡ true
  pub arguments_fit : fit_items (arguments_of a arguments) ≡ true
  pub statement_fits : fits_statement (function_of a function).statement ≡ true
  pub arguments_within : items_within bits (arguments_of a arguments) ≡ true

-- the statements with numbers below n name expressions with numbers below this, and earlier statements
abbrev pub NamesBelow : Arena → (nodes n : ℕ) → Type 0
NamesBelow a nodes n = (s : ℕ) (t : Placed F.Statement) → s < n → slice_get a.statements s ≡ Some t → statement_names_below nodes s t.item ≡ true

-- the function of this number as it is run
pub record IsCallee (a : Arena) (function : ℕ) (c : Callee) : Type 0 where
  pub there : c.statement < length a.statements
  pub is : (function_of a function).statement ≡ statement_of a c.statement
  pub blocking : at_once (statement_of a c.statement) ≡ statement_of a c.statement
  -- where its statement names expressions
  pub few : c.nodes ≤ length a.nodes
  pub before : (e : ℕ) → ((b : Body) → body_at a function ≡ Some b → b.nodes ≤ e) → c.nodes ≤ e
  pub names : NamesBelow a c.nodes (suc c.statement)
  -- and bits
  pub len : c.len ≡ bit_count (locals_in (declared_at a function))
  pub within : statement_within c.len (statement_of a c.statement) ≡ true
  pub writes_within : All (λ b. b < c.len) c.writes.items
  pub covers : Covers c.writes.items (statement_of a c.statement)
  pub result_first : c.result.first ≡ (function_of a function).header.result.first
  pub result_len : c.result.len ≡ E.signal_length (function_of a function).header.result
  pub result_within : c.result.first + c.result.len ≤ c.len
