-- What the lowering of a call needs and gives, and that of its arguments (IEEE 1364-2005, 10.4).
use Rattle.std.specs.Prelude.{◌≡◌, ℕ, ◌+◌, ◌-◌, ◌<◌, ◌≤◌, ◌^◌, max, true, List, [], ◌∷◌, ◌++◌, map, length, sum_by, All}
use Rattle.std.specs.List.{list_all}
use Rattle.vs_net.specs.Network as N
use Rattle.vs_four.specs.Logic.{BitList}
use Rattle.vs_design.specs.Expressions.{Signal, signal_length, Header, local_signals, Expression, Items, NoItem, Item, width}
use Rattle.vs_design.specs.Statements.{Function}
use Rattle.vs_design.specs.Values.{assigned_value}
use Rattle.vs_design.specs.Elaborated.{have_bits_from}
use Rattle.vs_design.specs.Fits.{fits_signal, fit_items, fits_statement}
use Rattle.vs_design.specs.Footprints.{read_bits, items_reads}
use Rattle.vs_design.specs.Sizes.{weight, arguments_weight, statement_weight}
use Rattle.vs_design.specs.Within.{items_within}
use Rattle.vs_flat.specs.declared.expressions.Node.{Node}
use Rattle.vs_flat.specs.declared.expressions.Node.TheVariants as V
use Rattle.vs_flat.specs.Arena.{Arena}
use Rattle.vs_code.specs.Calls.{Call, length_of}
use Rattle.vs_values.specs.declared.templates.Template.{Template}
use Rattle.vs_values.specs.Added.{AreAdded, IsEnv, AreValues}
use Rattle.vs_values.specs.Coded.{Coding}
use Rattle.vs_values.specs.Templates.{Templated, IsTemplate, function_at, input_bits, names_at_call, renamed, renamed_call}
use Rattle.vs_values.specs.Valued.{IsSource}

-- a call is one of a function that has been looked at
abbrev pub CallsFirst : Templated → Node → Type 0
CallsFirst t (V.Call function arguments) = function < t.functions
CallsFirst t _ = Unit {0}

-- the local bits are numbered from 0, and there are as many arguments as inputs
pub record IsFormedCall (h : Header) (count : ℕ) : Type 0 where
  pub bits : have_bits_from 0 (local_signals h) ≡ true
  pub as_many : count ≡ length h.inputs

abbrev pub IsFormedCallOf : Arena → Node → Type 0
IsFormedCallOf a (V.Call function arguments) = IsFormedCall (function_at a function).header (length arguments)
IsFormedCallOf a _ = Unit {0}

-- ---- arguments

-- the values of all inputs' bits, by the arguments, each as assigned to its input (10.4.3)
abbrev pub argument_values : Items → List Signal → N.State → BitList
argument_values NoItem inputs state = []
argument_values (Item e es) [] state = []
argument_values (Item e es) (input ∷ inputs) state = assigned_value e (signal_length input) state ++ argument_values es inputs state

-- the slots of the bits that they name are known, they fit, and there is room for their slots and their calls
pub record AreReady (env : List ℕ) (code : Coding) (arguments : Items) (inputs : List Signal) : Type 0 where
  pub is_env : IsEnv env code.next
  pub has_bits : items_within (length env) arguments ≡ true
  pub fit : fit_items arguments ≡ true
  pub inputs_fit : list_all fits_signal inputs ≡ true
  pub light : arguments_weight arguments inputs ≤ 16777216
  pub slots : code.next + arguments_weight arguments inputs < 2 ^ 32
  pub few : length_of code.calls + arguments_weight arguments inputs ≤ 2 ^ 32

-- what is added for an argument of an input of this length
pub record AddsArgument (env : List ℕ) (old new : Coding) (e : Expression) (long : ℕ) (to : List ℕ) : Type 0 where
  pub calls : List Call
  pub is : new.calls ≡ old.calls ++ calls
  pub values : AreValues env old.next calls (to ∷ []) new.next (weight e (max (width e) long)) (λ state. assigned_value e long state ∷ [])
  pub wide : length to ≡ long
  pub sources : All (IsSource env old.next (read_bits e)) to

-- and for all arguments
pub record AddsArguments (env : List ℕ) (old new : Coding) (arguments : Items) (inputs : List Signal) (to : List ℕ) : Type 0 where
  pub calls : List Call
  pub is : new.calls ≡ old.calls ++ calls
  pub values : AreValues env old.next calls (to ∷ []) new.next (arguments_weight arguments inputs) (λ state. argument_values arguments inputs state ∷ [])
  pub wide : length to ≡ sum_by signal_length inputs
  pub sources : All (IsSource env old.next (items_reads arguments)) to

-- ---- the template's calls

-- the function's statement fits and isn't too large, the slots of its inputs' bits are known, and there is room for its template's calls
pub record IsInlinable (f : Function) (code : Coding) (slots : List ℕ) : Type 0 where
  pub fit : fits_statement f.statement ≡ true
  pub long : length slots ≡ input_bits f.header
  pub constants : 4 ≤ code.next
  pub below : All (λ slot. slot < code.next) slots
  pub light : statement_weight f.statement ≤ 16777216
  pub room : code.next + statement_weight f.statement < 2 ^ 32
  pub few : length_of code.calls + statement_weight f.statement ≤ 2 ^ 32

-- a template whose calls can be added with these slots
pub record IsFitting (t : Template) (code : Coding) (slots : List ℕ) : Type 0 where
  pub added : AreAdded (4 + length slots) t.calls t.next (length_of t.calls)
  pub result : All (λ slot. slot < t.next) t.result
  pub constants : 4 ≤ code.next
  pub below : All (λ slot. slot < code.next) slots
  pub room : code.next + (t.next - (4 + length slots)) < 2 ^ 32
  pub few : length_of code.calls + length_of t.calls ≤ 2 ^ 32

-- the template's calls were added, with these slots in place of those of the inputs' bits
pub record IsInlinedTo (t : Template) (slots : List ℕ) (old new : Coding) (to : List ℕ) : Type 0 where
  pub calls : new.calls ≡ old.calls ++ map (renamed_call (renamed (names_at_call slots) old.next)) t.calls
  pub next : new.next ≡ old.next + (t.next - (4 + length slots))
  pub are : to ≡ map (renamed (names_at_call slots) old.next) t.result

-- and it is the function's
pub record IsInlined (f : Function) (slots : List ℕ) (old new : Coding) (to : List ℕ) : Type 0 where
  pub template : Template
  pub is : IsTemplate f template
  pub inlined : IsInlinedTo template slots old new to
