use Rattle.std.proofs.Common.{◌≡◌, ◌++◌, take}
use Rattle.vs_explanation.specs.Heavy as spec
use Rattle.vs_explanation.specs.Seen.{seen_of}
use Rattle.vs_explanation.proofs.heavy.push_lines.Given as goal

abbrev pub invariant-loop-heavy : goal.invariant-loop-heavy
invariant-loop-heavy l = l.page ≡ l.initial.page ++ spec.heavy_lines l.job (seen_of l.seen) (take l.heavy-index l.processes)
