use Rattle.std.proofs.Common.{◌≡◌, ◌++◌, take}
use Rattle.vs_explanation.specs.Located as spec
use Rattle.vs_explanation.specs.Seen.{seen_of}
use Rattle.vs_explanation.proofs.notes.push_all.Given as goal

abbrev pub invariant-loop-process : goal.invariant-loop-process
invariant-loop-process l = l.page ≡ l.initial.page ++ spec.further_text l.job (seen_of l.seen) (take l.process-index l.processes)
