use Rattle.std.proofs.Common.{◌≡◌, ◌+◌, take}
use Rattle.std.specs.Prelude.{sum_by, filter}
use Rattle.vs_design.specs.Expressions.{Signal, signal_length}
use Rattle.vs_flat.specs.DesignOf.{design_of}
use Rattle.vs_typed.specs.Weights.{capped}
use Rattle.vs_typed.proofs.sizes.add_inputs.Given as goal

abbrev pub invariant-loop-n : goal.invariant-loop-n
invariant-loop-n l = l.sum ≡ capped (l.initial.sum + sum_by signal_length (filter (λ (s : Signal). s.input) (take l.n (design_of l.shapes).signals)))
