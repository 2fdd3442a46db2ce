use Rattle.std.proofs.Common.{◌≡◌, drop}
use Rattle.vs_sets.specs.Tables.{bits_from}
use Rattle.vs_zero.specs.States.{state_of, written}
use Rattle.vs_zero.proofs.targets.put_places.Given as goal

abbrev pub invariant-loop-k : goal.invariant-loop-k
invariant-loop-k l =
    written (bits_from l.first (drop l.k l.places)) (drop l.k l.value) (state_of l.state)
    ≡ written (bits_from l.first l.places) l.value (state_of l.initial.state)
