-- Clocked blocks of a flat design.
use Rattle.std.proofs.Common.{◌≡◌, ℕ, Bool, ◌||◌, List, [], ◌∷◌, map, Some, slice_get, sym, ap, ◌∙◌, refl}
use Rattle.std.specs.List.{list_any}
use Rattle.vs_design.specs.Designs as D
use Rattle.vs_design.specs.Expressions.{Signal}
use Rattle.vs_flat.specs.Arena.{Arena}
use Rattle.vs_flat.specs.DesignOf.{arena_signals, arena_statements, arena_trees, design_of, event_of, kind_of}
use Rattle.vs_flat.specs.Laws.{EachProcess}
use Rattle.vs_flat.specs.Trees.{signal_at, statement_at, tree_at}
use Rattle.vs_flat.specs.declared.processes.Event as F
use Rattle.vs_flat.specs.declared.processes.Process as H
use Rattle.vs_flat.specs.declared.processes.Kind as G
use Rattle.vs_flat.specs.declared.processes.Kind.TheVariants as K
use Rattle.vs_assemble.specs.Plans.{is_clocked_or}

edges_are : (signal : ℕ → Signal) (events : List F.Event) → list_any D.has_edge (map (event_of signal) events) ≡ list_any (λ (e : F.Event). D.is_edge e.edge) events
edges_are signal [] = refl
edges_are signal (e ∷ events) = ap (λ c. D.is_edge e.edge || c) (edges_are signal events)

pub block_clocked : EachProcess → (a : Arena) (p : ℕ) (x : H.Process) (star : Bool) (events : List F.Event) (statement : ℕ) → slice_get a.processes p ≡ Some x → x.kind ≡ K.Block star events statement
    → (result : Bool) → result ≡ list_any (λ (e : F.Event). D.is_edge e.edge) events → result ≡ is_clocked_or (slice_get (design_of a).processes p)
block_clocked each a p x star events statement at is result told =
    let signal = signal_at (arena_signals a) in
    told ∙ sym (edges_are signal events)
    ∙ sym (ap is_clocked_or (each a p x at) ∙ ap (λ (k : G.Kind). D.is_clocked (kind_of signal (tree_at (arena_trees a)) (statement_at (arena_statements a)) x.at k)) is)
