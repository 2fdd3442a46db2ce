use Rattle.std.proofs.Common.{◌≡◌, drop}
use Rattle.vs_design.specs.Footprints.{contains}
use Rattle.vs_driver.proofs.writers.has_bit.Given as goal

abbrev pub invariant-loop-other : goal.invariant-loop-other
invariant-loop-other l = contains (drop l.other-index l.bits) l.bit ≡ contains l.bits l.bit
