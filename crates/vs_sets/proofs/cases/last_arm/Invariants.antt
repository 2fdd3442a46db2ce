use Rattle.std.proofs.Common.{◌≡◌, drop, None}
use Rattle.vs_sets.specs.Nodes.{tree_of}
use Rattle.vs_sets.specs.Completing.{last_possible}
use Rattle.vs_sets.proofs.cases.last_arm.Given as goal

-- with the arms that are left
abbrev pub invariant-loop-arm : goal.invariant-loop-arm
invariant-loop-arm l =
    let tree = tree_of l.fn.shapes in
    let from = last_possible tree l.kind l.context.width l.context.signed (tree l.fn.of) in
    from l.last (drop l.arm-index l.arms) ≡ from None l.arms
