use Rattle.std.proofs.Common.{◌≡◌, ℕ, length}
use Rattle.vs_design.specs.Designs.{bit_count}
use Rattle.vs_flat.specs.DesignOf.{design_of}
use Rattle.vs_queue.specs.Initially.{AreKept}
use Rattle.vs_queue.proofs.starts.note_owners.Given as goal

abbrev pub invariant-loop-p : goal.invariant-loop-p
invariant-loop-p l = (length l.owners ≡ bit_count (design_of l.typed)) × ((keeper : ℕ) → AreKept (design_of l.typed) 0 keeper l.initial.owners → AreKept (design_of l.typed) l.p keeper l.owners)
