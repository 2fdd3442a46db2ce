use Rattle.std.proofs.Common.{◌≡◌, ◌++◌, map, drop}
use Rattle.vs_design.specs.Designs as D
use Rattle.vs_design.specs.Footprints.{signals_bits}
use Rattle.vs_flat.specs.DesignOf.{event_of, arena_signals}
use Rattle.vs_flat.specs.Trees.{signal_at}
use Rattle.vs_reads.proofs.gather.waited_bits.Given as goal

-- what was added, with the bits of the signals that are left
abbrev pub invariant-loop-e : goal.invariant-loop-e
invariant-loop-e l =
    l.waits.items ++ signals_bits (map (λ (e : D.Event). e.signal) (map (event_of (signal_at (arena_signals l.shapes))) (drop l.e-index l.events)))
    ≡ signals_bits (map (λ (e : D.Event). e.signal) (map (event_of (signal_at (arena_signals l.shapes))) l.events))
