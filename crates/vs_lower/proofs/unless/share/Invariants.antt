use Rattle.std.proofs.Common.{◌≡◌, false, take}
use Rattle.std.specs.List.{list_any}
use Rattle.vs_design.specs.Footprints.{contains}
use Rattle.vs_lower.proofs.unless.share.Given as goal

abbrev pub invariant-loop-bit : goal.invariant-loop-bit
invariant-loop-bit l = list_any (contains l.those) (take l.bit-index l.bits) ≡ false
