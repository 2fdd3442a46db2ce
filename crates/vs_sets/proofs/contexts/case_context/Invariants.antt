use Rattle.std.proofs.Common.{◌≡◌, ◌≤◌, drop}
use Rattle.vs_design.specs.Statements.{arms_width, arms_sign}
use Rattle.vs_sets.specs.StatementParts.{arms_of}
use Rattle.vs_sets.proofs.contexts.case_context.Given as goal

abbrev pub invariant-loop-arm : goal.invariant-loop-arm
invariant-loop-arm l = record {
  len : arms_width (arms_of l.shapes l.fn.other (drop l.arm-index l.arms)) l.all.width ≡ arms_width (arms_of l.shapes l.fn.other l.arms) l.fn.own.width;
  sign : arms_sign (arms_of l.shapes l.fn.other (drop l.arm-index l.arms)) l.all.signed ≡ arms_sign (arms_of l.shapes l.fn.other l.arms) l.fn.own.signed;
  few : l.all.width ≤ 64;
}
