use Rattle.std.proofs.Common.{◌≡◌, ◌||◌, ℕ, take}
use Rattle.std.specs.List.{list_any}
use Rattle.vs_design.specs.Footprints.{contains}
use Rattle.vs_level.specs.Feeders.{writers_at}
use Rattle.vs_level.proofs.feeders.add_feeders.Given as goal

abbrev pub invariant-loop-bit : goal.invariant-loop-bit
invariant-loop-bit l =
    (q : ℕ) → contains l.feeders.items q ≡ (contains l.fn.feeders.items q || list_any (λ b. contains (writers_at l.writers b) q) (take l.bit-index l.bits))
