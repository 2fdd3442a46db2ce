use Rattle.std.proofs.Common.{◌≡◌}
use Rattle.vs_design.specs.TimeZero.{is_uncertain}
use Rattle.vs_flat.specs.DesignOf.{design_of}
use Rattle.vs_sets.specs.Tables.{family_of}
use Rattle.vs_clock.specs.Tests.{NoneBefore}
use Rattle.vs_zero.proofs.Settling.{both}
use Rattle.vs_zero.proofs.process.first_uncertain.Given as goal

abbrev pub invariant-loop-p : goal.invariant-loop-p
invariant-loop-p l = record {
  same : family_of l.early ≡ family_of l.initial.early;
  none : NoneBefore (design_of l.typed) (is_uncertain (design_of l.typed) (both (family_of l.initial.early) (family_of l.late))) l.p;
}
