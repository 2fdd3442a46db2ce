use Rattle.vs_flat.specs.DesignOf.{design_of}
use Rattle.vs_zero.specs.States.{state_of}
use Rattle.vs_zero.proofs.Starting.{StartedTo}
use Rattle.vs_zero.proofs.starts.run_initials.Given as goal

abbrev pub invariant-loop-k : goal.invariant-loop-k
invariant-loop-k l = StartedTo l.at_once (design_of l.typed) (state_of l.initial.values) l.k (state_of l.values)
