use Rattle.std.proofs.Common.{◌≡◌, drop}
use Rattle.vs_sets.specs.Nodes.{tree_of}
use Rattle.vs_zero.specs.Constants.{taken_arm}
use Rattle.vs_zero.proofs.cases.taken_branch.Given as goal

abbrev pub invariant-loop-arm : goal.invariant-loop-arm
invariant-loop-arm l =
    taken_arm (tree_of l.shapes) l.kind l.context.width l.context.signed l.subject l.other (drop l.arm-index l.arms)
    ≡ taken_arm (tree_of l.shapes) l.kind l.context.width l.context.signed l.subject l.other l.arms
