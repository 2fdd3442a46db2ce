use Rattle.std.proofs.Common.{◌≡◌, length, take}
use Rattle.vs_design.specs.Designs.{Design}
use Rattle.vs_clock.specs.Roots.{AreAllTargets, AreClosed, AreRoots}
use Rattle.vs_clock.proofs.roots.roots_of.Given as goal

abbrev pub invariant-loop-root : goal.invariant-loop-root
invariant-loop-root l = (length l.labels.items ≡ length l.targets) × AreClosed l.targets l.labels.items × ((d : Design) → AreAllTargets d l.targets → AreRoots d (take l.root-index l.roots) l.labels.items)
