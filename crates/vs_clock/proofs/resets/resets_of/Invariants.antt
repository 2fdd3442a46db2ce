use Rattle.std.proofs.Common.{◌≡◌, ℕ, List, length}
use Rattle.vs_flat.specs.DesignOf.{design_of}
use Rattle.vs_clock.specs.Nets.{AreNets}
use Rattle.vs_clock.proofs.Resetting.{AreBefore}
use Rattle.vs_clock.proofs.resets.resets_of.Given as goal

abbrev pub invariant-loop-p : goal.invariant-loop-p
invariant-loop-p l = (length l.resets.items ≡ l.p) × ((c : List ℕ) → AreNets (design_of l.typed) c l.nets → AreBefore l.typed c l.p l.resets.items)
