use Rattle.std.proofs.Common.{◌≡◌, take}
use Rattle.std.specs.List.{filter_map}
use Rattle.vs_flat.specs.DesignOf.{arena_signals}
use Rattle.vs_clock.specs.Dead.{unmarked_bit}
use Rattle.vs_clock.proofs.dead.unmarked_bits.Given as goal

abbrev pub invariant-loop-signal : goal.invariant-loop-signal
invariant-loop-signal l = l.bits.items ≡ filter_map (unmarked_bit l.marks) (take l.signal (arena_signals l.flat))
