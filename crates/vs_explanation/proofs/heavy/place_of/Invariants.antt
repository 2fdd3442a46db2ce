use Rattle.std.proofs.Common.{◌≡◌, ◌++◌, take, drop}
use Rattle.vs_explanation.specs.Heavy as spec
use Rattle.vs_explanation.proofs.heavy.place_of.Given as goal

abbrev pub invariant-loop-at : goal.invariant-loop-at
invariant-loop-at l = take l.at l.others ++ spec.placed l.heavy (drop l.at l.others) ≡ spec.placed l.heavy l.others
