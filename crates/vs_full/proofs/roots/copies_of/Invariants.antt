use Rattle.vs_flat.specs.DesignOf.{design_of}
use Rattle.vs_full.specs.Roots.{AreCopiesBefore}
use Rattle.vs_full.proofs.roots.copies_of.Given as goal

abbrev pub invariant-loop-p : goal.invariant-loop-p
invariant-loop-p l = AreCopiesBefore (design_of l.flat) l.p l.copies.items
