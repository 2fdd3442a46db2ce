use Rattle.std.proofs.Common.{take}
use Rattle.vs_code.specs.Placed.{calls_at}
use Rattle.vs_code.proofs.Runs.{HaveRun}
use Rattle.vs_code.proofs.program.run_all.Given as goal

-- the calls so far were made
abbrev pub invariant-loop-call : goal.invariant-loop-call
invariant-loop-call g l =
    HaveRun g.W.Word.lane g.W.Word.LANES l.initial.file l.file l.initial.steps l.steps (calls_at l.arena l.calls) (take l.call-index (calls_at l.arena l.calls))
