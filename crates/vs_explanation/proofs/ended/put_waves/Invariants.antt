use Rattle.std.proofs.Common.{◌≡◌, ℕ, List, ◌++◌, drop, Ok}
use Rattle.vs_desk.specs.Desk.{PutsAll}
use Rattle.vs_explanation.specs.Ended.{waves_from}
use Rattle.vs_explanation.proofs.ended.put_waves.Given as goal

abbrev pub invariant-loop-lane : goal.invariant-loop-lane
invariant-loop-lane g l =
    (before : List ℕ) × (before ++ waves_from l.job.mode l.lane (drop l.lane l.job.stimuli) ≡ waves_from l.job.mode 0 l.job.stimuli)
    × PutsAll {V = Unit {0}} {E = Unit {0}} (g.D.Desk.told l.initial.desk) (g.D.Desk.told l.desk) 0 before (Ok tt)
