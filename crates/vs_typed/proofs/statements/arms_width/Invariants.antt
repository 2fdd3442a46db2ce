use Rattle.std.proofs.Common.{◌≡◌, drop}
use Rattle.vs_design.specs.Statements.{arms_width}
use Rattle.vs_typed.specs.Weights.{arms_of}
use Rattle.vs_typed.proofs.statements.arms_width.Given as goal

abbrev pub invariant-loop-arm : goal.invariant-loop-arm
invariant-loop-arm l = arms_width (arms_of l.shapes l.fn.other (drop l.arm-index l.arms)) l.most ≡ arms_width (arms_of l.shapes l.fn.other l.arms) l.initial.most
