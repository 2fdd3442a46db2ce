use Rattle.std.proofs.Common.{◌≡◌, ◌++◌, drop}
use Rattle.vs_flat.specs.DesignOf.{arena_signals}
use Rattle.vs_rounds.specs.Inputs.{inputs_among}
use Rattle.vs_setup.proofs.inputs.data_inputs.Given as goal

-- the data inputs so far, and those among the rest of the signals
abbrev pub invariant-loop-n : goal.invariant-loop-n
invariant-loop-n l = l.inputs.items ++ inputs_among l.resets l.selects l.clocks (drop l.n (arena_signals l.flat)) ≡ inputs_among l.resets l.selects l.clocks (arena_signals l.flat)
