use Rattle.std.proofs.Common.{◌≡◌, map, take}
use Rattle.vs_flat.specs.DesignOf.{design_of}
use Rattle.vs_typed.specs.Weights.{told_weight}
use Rattle.vs_typed.proofs.sizes.each_weight.Given as goal

abbrev pub invariant-loop-p : goal.invariant-loop-p
invariant-loop-p l = l.weights.items ≡ map told_weight (take l.p (design_of l.shapes).processes)
