use Rattle.std.proofs.Common.{◌≡◌}
use Rattle.vs_flat.specs.DesignOf.{design_of}
use Rattle.vs_zero.specs.States.{state_of, unknown}
use Rattle.vs_zero.specs.Values.{IsZero}
use Rattle.vs_compile.specs.Resets.{AreSet}
use Rattle.vs_compile.proofs.resets.gathered.Given as goal

-- those of the first processes
abbrev pub invariant-loop-p : goal.invariant-loop-p
invariant-loop-p l = record {
  x : state_of l.from_x ≡ unknown;
  zero : IsZero l.from_zero;
  set : AreSet (design_of l.typed) l.clocks.bits l.p l.all;
}
