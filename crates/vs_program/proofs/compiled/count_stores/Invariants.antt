use Rattle.std.proofs.Common.{◌≡◌, take}
use Rattle.vs_code.specs.Calls.{length_of}
use Rattle.vs_program.specs.Phases.{calls_of_runs}
use Rattle.vs_program.proofs.compiled.count_stores.Given as goal

-- the stores of the runs so far
abbrev pub invariant-loop-run : goal.invariant-loop-run
invariant-loop-run l = l.count ≡ length_of (calls_of_runs l.calls (take l.run-index l.runs))
