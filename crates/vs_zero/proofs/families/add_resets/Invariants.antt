use Rattle.std.proofs.Common.{◌≡◌, ◌≤◌, length, drop}
use Rattle.vs_design.specs.Resets.{with_resets}
use Rattle.vs_flat.specs.DesignOf.{design_of}
use Rattle.vs_sets.specs.Tables.{family_of}
use Rattle.vs_zero.specs.States.{state_of, unknown}
use Rattle.vs_zero.specs.Values.{IsZero}
use Rattle.vs_zero.proofs.families.add_resets.Given as goal

abbrev pub invariant-loop-p : goal.invariant-loop-p
invariant-loop-p l = record {
  within : l.p ≤ length l.typed.processes;
  x : state_of l.from_x ≡ unknown;
  zeros : IsZero l.from_zero;
  sets : family_of l.table ≡ (λ b. with_resets (design_of l.typed) l.clocks.bits (drop l.p (design_of l.typed).processes) b (family_of l.initial.table b));
}

abbrev pub decreases-loop-p : goal.decreases-loop-p
decreases-loop-p l = l.p
