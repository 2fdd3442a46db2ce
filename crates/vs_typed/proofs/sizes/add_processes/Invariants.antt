use Rattle.std.proofs.Common.{◌≡◌, ◌+◌, take}
use Rattle.std.specs.Prelude.{sum_by}
use Rattle.vs_design.specs.Sizes.{process_weight}
use Rattle.vs_flat.specs.DesignOf.{design_of}
use Rattle.vs_typed.specs.Weights.{capped}
use Rattle.vs_typed.proofs.sizes.add_processes.Given as goal

abbrev pub invariant-loop-p : goal.invariant-loop-p
invariant-loop-p l = l.sum ≡ capped (0 + sum_by process_weight (take l.p (design_of l.shapes).processes))
