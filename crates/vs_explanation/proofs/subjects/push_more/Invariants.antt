use Rattle.std.proofs.Common.{◌≡◌, ◌++◌, take}
use Rattle.vs_explanation.specs.Subjects as spec
use Rattle.vs_explanation.proofs.subjects.push_more.Given as goal

abbrev pub invariant-loop-name : goal.invariant-loop-name
invariant-loop-name l = l.page ≡ l.initial.page ++ spec.more_text (take l.name-index l.names)
