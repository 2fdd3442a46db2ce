use Rattle.std.proofs.Common.{◌≡◌, ◌++◌, drop}
use Rattle.vs_design.specs.Selects.{arm_patterns}
use Rattle.vs_sets.specs.StatementParts.{arms_of}
use Rattle.vs_full.proofs.full.patterns_of.Given as goal

abbrev pub invariant-loop-arm : goal.invariant-loop-arm
invariant-loop-arm l =
    l.patterns.items ++ arm_patterns l.kind l.n l.context.width l.context.signed (arms_of l.shapes l.fn.other (drop l.arm-index l.arms)) ≡ arm_patterns l.kind l.n l.context.width l.context.signed (arms_of l.shapes l.fn.other l.arms)
