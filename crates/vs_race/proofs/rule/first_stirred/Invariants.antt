use Rattle.std.proofs.Common.{◌≡◌, ℕ, ◌<◌, false, slice_index}
use Rattle.vs_race.specs.Stirrers.{has_other, stirrer_at}
use Rattle.vs_race.proofs.rule.first_stirred.Given as goal

abbrev pub invariant-loop-bit : goal.invariant-loop-bit
invariant-loop-bit l = (k : ℕ) → k < l.bit-index → has_other (stirrer_at l.table (slice_index l.bits k)) l.p ≡ false
