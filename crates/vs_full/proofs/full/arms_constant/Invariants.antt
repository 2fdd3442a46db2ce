use Rattle.std.proofs.Common.{◌≡◌, drop}
use Rattle.vs_design.specs.Selects.{arms_constant}
use Rattle.vs_sets.specs.StatementParts.{arms_of}
use Rattle.vs_full.proofs.full.arms_constant.Given as goal

abbrev pub invariant-loop-arm : goal.invariant-loop-arm
invariant-loop-arm l = arms_constant (arms_of l.shapes l.fn.other (drop l.arm-index l.arms)) ≡ arms_constant (arms_of l.shapes l.fn.other l.arms)
