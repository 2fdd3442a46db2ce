use Rattle.std.proofs.Common.{◌≡◌, take}
use Rattle.vs_flat.specs.DesignOf.{design_of}
use Rattle.vs_full.specs.Roots.{roots_in}
use Rattle.vs_full.proofs.roots.roots_of.Given as goal

abbrev pub invariant-loop-s : goal.invariant-loop-s
invariant-loop-s l = l.roots.items ≡ roots_in (design_of l.flat) (take l.s (design_of l.flat).signals)
