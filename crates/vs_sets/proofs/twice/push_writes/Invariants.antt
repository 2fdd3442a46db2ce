use Rattle.std.proofs.Common.{◌≡◌, ◌++◌, drop}
use Rattle.vs_design.specs.Footprints.{statement_bits}
use Rattle.vs_sets.specs.Twice.{in_order}
use Rattle.vs_sets.proofs.twice.push_writes.Given as goal

abbrev pub invariant-loop-part : goal.invariant-loop-part
invariant-loop-part l = l.out.items ++ statement_bits (in_order l.shapes (drop l.part-index l.parts)) ≡ l.initial.out.items ++ statement_bits (in_order l.shapes l.parts)
