use Rattle.std.proofs.Common.{◌≡◌, take}
use Rattle.vs_design.specs.Footprints.{without}
use Rattle.vs_reads.proofs.gather.without.Given as goal

abbrev pub invariant-loop-bit : goal.invariant-loop-bit
invariant-loop-bit l = l.kept.items ≡ without (take l.bit-index l.bits) l.others
