use Rattle.std.proofs.Common.{◌≡◌, ◌-◌, ◌++◌}
use Rattle.vs_design.specs.Values.{count_from}
use Rattle.vs_shape.proofs.bits.push_run.Given as goal

abbrev pub invariant-loop-bit : goal.invariant-loop-bit
invariant-loop-bit l = l.out.items ++ count_from l.bit (l.bit-end - l.bit) ≡ l.initial.out.items ++ count_from l.first l.count
