-- An elaborated design: scopes, signals and processes, each by number (IEEE 1364-2005, clause 12).
use Rattle.std.specs.Prelude.{ℕ, suc, Bool, true, false, not, ◌&&◌, ◌==◌, List, [], ◌∷◌, ◌++◌, filter, sum_by, if◌then◌else◌, Option}
use Rattle.std.specs.List.{list_any}
pub use Rattle.vs_base.specs.declared.events.Edge.{Edge}
pub use Rattle.vs_base.specs.declared.events.Edge.TheVariants.{Any, Posedge, Negedge}
pub use Rattle.vs_base.specs.Events.{is_edge}
use Rattle.vs_design.specs.Expressions.{Signal, signal_length, Expression}
use Rattle.vs_design.specs.Statements.{Target, Statement, Function}

-- an instance (12.1.2) or a generate block (12.4); the top has no parent
pub record Scope : Type 0 where
  pub name : List ℕ
  pub parent : Option ℕ
  pub instance : Bool

-- 9.7.2
pub record Event : Type 0 where
  pub signal : Signal
  pub edge : Edge

-- an assign is written, or implied by an input or an output port (12.3.9.2): it goes from the outer expression to the inner net, or from the inner signal to the outer net
pub data Port : Type 0 where
  Written InputPort OutputPort : Port

pub data Process : Type 0 where
  -- an assign (6.1); it begins at `place` in the text, its target at `target_place`
  Continuous : (place : ℕ) (port : Port) (target_place : ℕ) (target : Target) (e : Expression) → Process
  -- an always block (9.9.2) with its event control; `star` is `@*` (9.7.5), and then there are no events
  Always : (place : ℕ) (star : Bool) (events : List Event) (statement : Statement) → Process

-- An initial process (9.9.1): `initial`, or the initial value in a variable's declaration (6.2.1). It runs once, from the beginning. It begins at `place` in the text, behind this many of the processes
pub record Initial : Type 0 where
  pub place : ℕ
  pub behind : ℕ
  pub statement : Statement

pub record Design : Type 0 where
  pub scopes : List Scope
  pub signals : List Signal
  -- assigns and `always` blocks
  pub processes : List Process
  -- in the order of the text
  pub initials : List Initial
  -- those that are declared, whether or not they are called
  pub functions : List Function

abbrev pub has_edge : Event → Bool
has_edge e = is_edge e.edge

abbrev pub is_assign : Process → Bool
is_assign (Continuous place port target_place target e) = true
is_assign (Always place star events statement) = false

-- a block with an edge among its events is clocked, and any other is combinational
abbrev pub is_clocked : Process → Bool
is_clocked (Continuous place port target_place target e) = false
is_clocked (Always place star events statement) = list_any has_edge events

abbrev pub is_combinational : Process → Bool
is_combinational p = not (is_assign p) && not (is_clocked p)

-- where it begins in the text
abbrev pub process_place : Process → ℕ
process_place (Continuous place port target_place target e) = place
process_place (Always place star events statement) = place

-- a process or an initial process, with its number among those of its kind
pub data AnyProcess : Type 0 where
  OfProcess : (number : ℕ) (process : Process) → AnyProcess
  OfInitial : (number : ℕ) (initial : Initial) → AnyProcess

-- the initial processes that stand behind so many processes; the list is numbered from k on
abbrev pub standing : ℕ → ℕ → List Initial → List AnyProcess
standing p k [] = []
standing p k (i ∷ is) = (if i.behind == p then (OfInitial k i ∷ []) else []) ++ standing p (suc k) is

abbrev pub text_from : ℕ → List Process → List Initial → List AnyProcess
text_from p [] is = standing p 0 is
text_from p (process ∷ ps) is = standing p 0 is ++ OfProcess p process ∷ text_from (suc p) ps is

-- all of them in the order of the text: the number that a report gives to one is its place in this list
abbrev pub in_text_order : Design → List AnyProcess
in_text_order d = text_from 0 d.processes d.initials

abbrev pub any_place : AnyProcess → ℕ
any_place (OfProcess p process) = process_place process
any_place (OfInitial k i) = i.place

abbrev pub top_inputs : Design → List Signal
top_inputs d = filter (λ s. s.input) d.signals

abbrev pub bit_count : Design → ℕ
bit_count d = sum_by signal_length d.signals
