use Rattle.std.proofs.Common.{◌≡◌, drop}
use Rattle.vs_design.specs.TimeZero.{families_along}
use Rattle.vs_flat.specs.DesignOf.{design_of}
use Rattle.vs_sets.specs.Tables.{family_of}
use Rattle.vs_zero.proofs.Settling.{both}
use Rattle.vs_zero.proofs.process.settle.Given as goal

abbrev pub invariant-loop-p : goal.invariant-loop-p
invariant-loop-p l =
    families_along (design_of l.typed) (drop l.p-index l.order) (both (family_of l.early) (family_of l.late)) ≡ families_along (design_of l.typed) l.order (both (family_of l.initial.early) (family_of l.initial.late))
