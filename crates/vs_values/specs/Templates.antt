-- Functions lowered once (IEEE 1364-2005, 10.4): a template has the calls of a function's statement over slots of its own, and a call of the function gets these calls with other slots.
--
-- Slots of a template: 0 to 3 hold the constants; bit b of the inputs has slot `home b`; all other local bits begin in the slot of x; new slots come after those of the inputs.
use Rattle.std.specs.Prelude.{◌≡◌, ℕ, ◌+◌, ◌-◌, ◌<◌, ◌≤◌, true, List, [], ◌∷◌, map, length, slice_get, slice_index_or, sum_by, Option, Some, None}
use Rattle.vs_net.specs.Network as N
use Rattle.vs_four.specs.Logic.{BitList}
use Rattle.vs_design.specs.Expressions.{signal_length, Header}
use Rattle.vs_design.specs.Statements.{Function}
use Rattle.vs_design.specs.Values.{bits_of_signal, body, read}
use Rattle.vs_design.specs.Fits.{fits_statement}
use Rattle.vs_design.specs.Sizes.{statement_weight}
use Rattle.vs_flat.specs.declared.functions.Body.{Body}
use Rattle.vs_flat.specs.declared.placed.Placed.{Placed}
use Rattle.vs_flat.specs.declared.statements.Statement.{Statement}
use Rattle.vs_flat.specs.Arena.{Arena, body_at}
use Rattle.vs_flat.specs.DesignOf.{arena_trees, callee_of}
use Rattle.vs_flat.specs.Lawful.{NamesEarlier}
use Rattle.vs_flat.specs.Named.{statement_names_below}
use Rattle.vs_flat.specs.Trees.{tree_at}
use Rattle.vs_code.specs.Calls.{Call}
use Rattle.vs_program.specs.Lowered.{home}
use Rattle.vs_values.specs.declared.templates.Template.{Template}
use Rattle.vs_values.specs.Added.{AreValues}
use Rattle.vs_values.specs.Environments.{local_slots}

-- ---- what a template is

-- how many bits the inputs have, and how many all other local signals
abbrev pub input_bits : Header → ℕ
input_bits h = sum_by signal_length h.inputs

abbrev pub other_bits : Header → ℕ
other_bits h = sum_by signal_length (h.result ∷ h.own)

-- the slots of the local bits before the statement
abbrev pub slots_at_call : Header → List ℕ
slots_at_call h = local_slots (input_bits h) (other_bits h)

-- what the result has after the statement, by the values of the local bits before it
abbrev pub result_value : Function → N.State → BitList
result_value f begin = read (N.write_all begin (body f.statement begin).writes) (bits_of_signal f.header.result)

-- The calls leave, in the slots of the result, what the function's result has after its statement, whatever values the inputs have. They make at most as many stores as the statement weighs.
pub record IsTemplate (f : Function) (t : Template) : Type 0 where
  pub values : AreValues (slots_at_call f.header) (home (input_bits f.header)) t.calls (t.result ∷ []) t.next (statement_weight f.statement) (λ begin. result_value f begin ∷ [])
  pub length : length t.result ≡ signal_length f.header.result

-- a function whose statement doesn't fit, or weighs more than a design may, has none; no expression that is ready calls one
abbrev pub HasNoRoom : Function → Type 0
HasNoRoom f = fits_statement f.statement ≡ true → 16777216 < statement_weight f.statement

abbrev pub IsEntry : Function → Option Template → Type 0
IsEntry f None = HasNoRoom f
IsEntry f (Some t) = IsTemplate f t

-- ---- the table of templates, by function

-- a function of a flat design, by its number: its header and its statement
abbrev pub function_at : Arena → ℕ → Function
function_at a f = callee_of a (tree_at (arena_trees a)) f

-- the entries of the first functions, all of which have their statements
pub record IsTable (a : Arena) (table : List (Option Template)) : Type 0 where
  pub there : length table ≤ length a.bodies
  pub entries : (f : ℕ) (entry : Option Template) → slice_get table f ≡ Some entry → IsEntry (function_at a f) entry

-- what contracts see of a typed design with the entries of its first functions: the flat design, and how many functions these are
pub record Templated : Type 0 where
  pub arena : Arena
  pub functions : ℕ

-- How many expressions and statements, the first ones, call these functions alone: all before the end of the body that comes next, or all there are.
abbrev pub nodes_until : Option Body → ℕ → ℕ
nodes_until None count = count
nodes_until (Some b) count = b.nodes

abbrev pub statements_until : Option Body → ℕ → ℕ
statements_until None count = count
statements_until (Some b) count = b.statements

abbrev pub node_bound : Templated → ℕ
node_bound t = nodes_until (body_at t.arena t.functions) (length t.arena.nodes)

abbrev pub statement_bound : Templated → ℕ
statement_bound t = statements_until (body_at t.arena t.functions) (length t.arena.statements)

-- ---- laws of the bounds

-- once each function was looked at, all expressions and statements are among them
abbrev pub BoundsOfAll : Type 0
BoundsOfAll = (t : Templated) → t.functions ≡ length t.arena.bodies → (node_bound t ≡ length t.arena.nodes) × (statement_bound t ≡ length t.arena.statements)

-- while function f comes next, all that its body names
abbrev pub BoundsOfNext : Type 0
BoundsOfNext = (t : Templated) (b : Body) → body_at t.arena t.functions ≡ Some b → (node_bound t ≡ b.nodes) × (statement_bound t ≡ b.statements)

abbrev pub BoundsAreThere : Type 0
BoundsAreThere = (t : Templated) → NamesEarlier t.arena → (node_bound t ≤ length t.arena.nodes) × (statement_bound t ≤ length t.arena.statements)

-- a statement among them names expressions among them, and earlier statements
abbrev pub BoundedNames : Type 0
BoundedNames = (t : Templated) → NamesEarlier t.arena → (n : ℕ) (s : Placed Statement) → n < statement_bound t → slice_get t.arena.statements n ≡ Some s → statement_names_below (node_bound t) n s.item ≡ true

-- ---- calls with other slots

-- The slot that stands for one of a template at a call: for the constants and the bits of the inputs these in their order, `names`, and for the new ones new ones from `first` on.
abbrev pub renamed : List ℕ → ℕ → ℕ → ℕ
renamed names first slot = slice_index_or names slot (slot - length names + first)

abbrev pub renamed_call : (ℕ → ℕ) → Call → Call
renamed_call name call = record { kernel = call.kernel; args = map (map name) call.args; to = map name call.to; scratch = map name call.scratch }

-- the slots of the constants, and behind them those of a call's arguments
abbrev pub names_at_call : List ℕ → List ℕ
names_at_call arguments = 0 ∷ 1 ∷ 2 ∷ 3 ∷ arguments
