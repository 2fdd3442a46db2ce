use Rattle.std.proofs.Common.{◌≡◌, map, take}
use Rattle.std.specs.List.{filter_map}
use Rattle.vs_flat.specs.DesignOf.{arena_signals}
use Rattle.vs_flat.specs.Trees.{signal_at}
use Rattle.vs_clock.specs.Inputs.{reset_bit}
use Rattle.vs_clock.proofs.inputs.reset_bits.Given as goal

abbrev pub invariant-loop-signal : goal.invariant-loop-signal
invariant-loop-signal l = l.bits.items ≡ filter_map (reset_bit l.clocks) (map (signal_at (arena_signals l.flat)) (take l.signal-index l.signal-items))
