use Rattle.std.proofs.Common.{◌≡◌, true, map, take}
use Rattle.std.specs.List.{list_all}
use Rattle.vs_flat.specs.Trees.{signal_at}
use Rattle.vs_flat.specs.DesignOf.{arena_signals, event_of}
use Rattle.vs_clock.specs.Dead.{is_labelled_edge}
use Rattle.vs_clock.proofs.dead.are_labelled_edges.Given as goal

abbrev pub invariant-loop-event : goal.invariant-loop-event
invariant-loop-event l = list_all (is_labelled_edge l.labels) (map (event_of (signal_at (arena_signals l.flat))) (take l.event-index l.events)) ≡ true
