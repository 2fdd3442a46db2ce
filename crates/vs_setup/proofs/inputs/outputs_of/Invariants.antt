use Rattle.std.proofs.Common.{◌≡◌, ◌++◌, drop}
use Rattle.vs_flat.specs.DesignOf.{arena_signals}
use Rattle.vs_rounds.specs.Inputs.{outputs_among}
use Rattle.vs_setup.proofs.inputs.outputs_of.Given as goal

-- the outputs so far, and those among the rest of the signals
abbrev pub invariant-loop-n : goal.invariant-loop-n
invariant-loop-n l = l.outputs.items ++ outputs_among l.names (drop l.n (arena_signals l.flat)) ≡ outputs_among l.names (arena_signals l.flat)
