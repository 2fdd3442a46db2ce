use Rattle.std.proofs.Common.{◌≡◌, ◌≤◌, ◌+◌, drop}
use Rattle.vs_design.specs.Selects.{items_in}
use Rattle.vs_sets.specs.StatementParts.{arms_of}
use Rattle.vs_full.proofs.full.are_few.Given as goal

-- of 4,096 items so many are left to those that are left
abbrev pub invariant-loop-arm : goal.invariant-loop-arm
invariant-loop-arm l = record {
  count : items_in (arms_of l.shapes l.fn.other (drop l.arm-index l.arms)) + 4096 ≡ items_in (arms_of l.shapes l.fn.other l.arms) + l.left;
  most : l.left ≤ 4096;
}
