use Rattle.std.proofs.Common.{◌≡◌, ◌++◌, drop}
use Rattle.vs_flat.specs.DesignOf.{arena_signals}
use Rattle.vs_assemble.proofs.Signals.{data_of}
use Rattle.vs_assemble.proofs.frames.data_inputs.Given as goal

-- the bits so far, and those of the rest of the signals
abbrev pub invariant-loop-n : goal.invariant-loop-n
invariant-loop-n l = l.bits.items ++ data_of l.clocks (drop l.n (arena_signals l.flat)) ≡ data_of l.clocks (arena_signals l.flat)
