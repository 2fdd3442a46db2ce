-- The plain design that a flat one stands for.
use Rattle.std.specs.Prelude.{ℕ, suc, List, [], map, take, drop, length, slice_index_or, Option, None, Some}
use Rattle.vs_design.specs.Expressions as E
use Rattle.vs_design.specs.Statements as T
use Rattle.vs_design.specs.Designs as D
use Rattle.vs_design.specs.Values.{count_from}
use Rattle.vs_flat.specs.declared.functions.Function.{Function}
use Rattle.vs_flat.specs.declared.functions.Declared.{Declared}
use Rattle.vs_flat.specs.declared.functions.Body.{Body}
use Rattle.vs_flat.specs.declared.processes.Scope.{Scope}
use Rattle.vs_flat.specs.declared.processes.Event.{Event}
use Rattle.vs_flat.specs.declared.processes.Process.{Process}
use Rattle.vs_flat.specs.declared.processes.Initial.{Initial}
use Rattle.vs_flat.specs.declared.processes.Kind.{Kind}
use Rattle.vs_flat.specs.declared.processes.Kind.TheVariants as K
use Rattle.vs_flat.specs.Arena.{Arena, declared_at, body_at}
use Rattle.vs_flat.specs.Named.{locals_in}
use Rattle.vs_flat.specs.Ports.{port_of}
use Rattle.vs_flat.specs.Targets.{place_of}
use Rattle.vs_flat.specs.Trees.{no_signal, Names, signals_from, signal_at, tree_at, statement_at, node_trees, statement_trees, target_tree}

abbrev pub scope_of : Scope → D.Scope
scope_of s = record { name = s.name; parent = s.parent; instance = s.instance }

abbrev pub event_of : (ℕ → E.Signal) → Event → D.Event
event_of signal e = record { signal = signal e.signal; edge = e.edge }

abbrev pub kind_of : (ℕ → E.Signal) → (ℕ → E.Expression) → (ℕ → T.Statement) → ℕ → Kind → D.Process
kind_of signal tree statement place (K.Assign target e port) = D.Continuous place (port_of port) (place_of (tree target)) (target_tree (tree target)) (tree e)
kind_of signal tree statement place (K.Block star events body) = D.Always place star (map (event_of signal) events) (statement body)

abbrev pub process_of : (ℕ → E.Signal) → (ℕ → E.Expression) → (ℕ → T.Statement) → Process → D.Process
process_of signal tree statement p = kind_of signal tree statement p.at p.kind

abbrev pub initial_of : (ℕ → T.Statement) → Initial → D.Initial
initial_of statement i = record { place = i.at; behind = i.behind; statement = statement i.statement }

-- the signals of a flat design, and its trees
abbrev pub arena_signals : Arena → List E.Signal
arena_signals a = signals_from 0 a.signals

-- a function's header, and what stands for it where there is none
abbrev pub header_of : Function → E.Header
header_of f =
    let locals = signals_from 0 f.signals in
    record { place = f.at; inputs = take f.inputs locals; result = slice_index_or locals f.inputs no_signal; own = drop (suc f.inputs) locals }

abbrev pub no_header : E.Header
no_header = record { place = 0; inputs = []; result = no_signal; own = [] }

abbrev pub header_in : Option Declared → E.Header
header_in None = no_header
header_in (Some d) = header_of d.function

-- a function's statement, by the trees of the expressions before its call
abbrev pub statement_in : List T.Statement → Option Body → T.Statement
statement_in statements None = T.Empty
statement_in statements (Some b) = statement_at statements b.statement

abbrev pub callee_of : Arena → (ℕ → E.Expression) → ℕ → T.Function
callee_of a tree f = record { header = header_in (declared_at a f); statement = statement_in (statement_trees tree a.statements) (body_at a f) }

abbrev pub local_of : Arena → ℕ → ℕ → E.Signal
local_of a f n = signal_at (signals_from 0 (locals_in (declared_at a f))) n

abbrev pub arena_names : Arena → Names
arena_names a = record { signal = signal_at (arena_signals a); own = local_of a; callee = callee_of a }

abbrev pub arena_trees : Arena → List E.Expression
arena_trees a = node_trees (arena_names a) a.nodes

abbrev pub arena_statements : Arena → List T.Statement
arena_statements a = statement_trees (tree_at (arena_trees a)) a.statements

abbrev pub design_of : Arena → D.Design
design_of a = record {
  scopes = map scope_of a.scopes;
  signals = arena_signals a;
  processes = map (process_of (signal_at (arena_signals a)) (tree_at (arena_trees a)) (statement_at (arena_statements a))) a.processes;
  initials = map (initial_of (statement_at (arena_statements a))) a.initials;
  functions = map (callee_of a (tree_at (arena_trees a))) (count_from 0 (length a.bodies));
}
