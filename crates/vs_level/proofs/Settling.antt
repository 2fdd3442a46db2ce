-- Which processes of a flat design settle, and how many bits it has.
use Rattle.std.proofs.Common.{◌≡◌, ℕ, Bool, false, not, List, [], ◌∷◌, ◌||◌, map, refl, ap, ◌∙◌, Some}
use Rattle.std.specs.Prelude.{slice_get}
use Rattle.std.specs.List.{list_any}
use Rattle.vs_design.specs.Expressions as E
use Rattle.vs_design.specs.Statements as T
use Rattle.vs_design.specs.Designs.{is_clocked, has_edge}
use Rattle.vs_flat.specs.declared.processes.Event.{Event}
use Rattle.vs_flat.specs.declared.processes.Process.{Process}
use Rattle.vs_flat.specs.declared.processes.Kind.{Kind}
use Rattle.vs_flat.specs.declared.processes.Kind.TheVariants as K
use Rattle.vs_flat.specs.Arena.{Arena}
use Rattle.vs_flat.specs.Laws.{EachProcess}
use Rattle.vs_flat.specs.Trees.{signal_at, tree_at, statement_at}
use Rattle.vs_flat.specs.DesignOf.{event_of, kind_of, process_of, arena_signals, arena_trees, arena_statements, design_of}
use Rattle.vs_level.specs.Feeders.{settles}
use Rattle.vs_flat.specs.Events.{is_edge_event}
use Rattle.vs_reads.proofs.Numbered.{number_at}

abbrev pub is_clocked_kind : Kind → Bool
is_clocked_kind (K.Assign target e port) = false
is_clocked_kind (K.Block star events statement) = list_any is_edge_event events

events_same : (signal : ℕ → E.Signal) (events : List Event) → list_any has_edge (map (event_of signal) events) ≡ list_any is_edge_event events
events_same signal [] = refl
events_same signal (e ∷ es) = ap {B = Bool} (λ t. is_edge_event e || t) (events_same signal es)

clocked_is : (signal : ℕ → E.Signal) (tree : ℕ → E.Expression) (statement : ℕ → T.Statement) (place : ℕ) (k : Kind) → is_clocked (kind_of signal tree statement place k) ≡ is_clocked_kind k
clocked_is signal tree statement place (K.Assign target e port) = refl
clocked_is signal tree statement place (K.Block star events body) = events_same signal events

pub settles_by : EachProcess → (a : Arena) (p : ℕ) (r : Process) (k : Kind) → slice_get a.processes p ≡ Some r → r.kind ≡ k → settles (design_of a) p ≡ not (is_clocked_kind k)
settles_by each a p r k e h =
    number_at p (design_of a).processes (process_of (signal_at (arena_signals a)) (tree_at (arena_trees a)) (statement_at (arena_statements a)) r) (λ x. not (is_clocked x)) (each a p r e)
    ∙ ap not (clocked_is (signal_at (arena_signals a)) (tree_at (arena_trees a)) (statement_at (arena_statements a)) r.at r.kind ∙ ap is_clocked_kind h)
