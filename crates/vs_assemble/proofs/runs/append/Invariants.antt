use Rattle.std.proofs.Common.{take}
use Rattle.vs_assemble.specs.Runs.{AreJoinedRuns}
use Rattle.vs_assemble.proofs.runs.append.Given as goal

-- the calls of the first ones were added
abbrev pub invariant-loop-run : goal.invariant-loop-run
invariant-loop-run l = AreJoinedRuns l.initial.runs.items (take l.run-index l.others) l.runs.items
