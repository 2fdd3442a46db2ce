use Rattle.std.proofs.Common.{ℕ, ◌≤◌, ◌<◌, drop, Result, IsNone}
use Rattle.vs_desk.specs.declared.desk.Failed.{Failed}
use Rattle.vs_desk.specs.Desk.{Told}
use Rattle.vs_desk.specs.Places.{most_lanes}
use Rattle.vs_reread.specs.Again.{lane_again}
use Rattle.vs_explainer.specs.Missed.{TellsFrom}
use Rattle.vs_explainer.proofs.missed.explain_found.Given as goal

abbrev pub invariant-loop-lane : goal.invariant-loop-lane
invariant-loop-lane g l = record {
  free : (i : ℕ) → l.lane ≤ i → i < most_lanes → IsNone ((g.D.Desk.told l.desk).register.attached (lane_again i));
  told : (new : Told g.D.Desk.tells) (result : Result (Unit {0}) Failed) → TellsFrom l.job l.lane (drop l.lane l.found) (g.D.Desk.told l.desk) new result
      → TellsFrom l.job 0 l.found (g.D.Desk.told l.initial.desk) new result;
}
