use Rattle.std.proofs.Common.{◌≡◌, drop}
use Rattle.vs_four.specs.Logic.{fold_with}
use Rattle.vs_design.specs.Sets.{image2, only}
use Rattle.vs_sets.specs.BitOperators.{operator_of}
use Rattle.vs_sets.proofs.folds.fold.Given as goal

abbrev pub invariant-loop-set : goal.invariant-loop-set
invariant-loop-set l = fold_with (image2 (operator_of l.operator)) l.folded (drop l.set-index l.sets) ≡ fold_with (image2 (operator_of l.operator)) (only l.fn.first) l.sets
