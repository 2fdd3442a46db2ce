use Rattle.std.proofs.Common.{◌≡◌, drop}
use Rattle.std.specs.List.{list_all}
use Rattle.vs_design.specs.Sets.{is_only_x}
use Rattle.vs_sets.specs.Tables.{family_of}
use Rattle.vs_sets.proofs.table.are_only_x.Given as goal

abbrev pub invariant-loop-bit : goal.invariant-loop-bit
invariant-loop-bit l = list_all (λ b. is_only_x (family_of l.table b)) (drop l.bit-index l.bits) ≡ list_all (λ b. is_only_x (family_of l.table b)) l.bits
