use Rattle.std.proofs.Common.{◌≡◌, ◌+◌, take}
use Rattle.std.specs.Prelude.{sum_by}
use Rattle.vs_design.specs.Sizes.{sleeper_weight}
use Rattle.vs_flat.specs.DesignOf.{design_of}
use Rattle.vs_typed.specs.Weights.{capped}
use Rattle.vs_typed.proofs.sizes.add_sleepers.Given as goal

abbrev pub invariant-loop-p : goal.invariant-loop-p
invariant-loop-p l = l.sum ≡ capped (l.initial.sum + sum_by (sleeper_weight (design_of l.shapes)) (take l.p (design_of l.shapes).processes))
