use Rattle.std.proofs.Common.{◌≡◌, false, take, filter}
use Rattle.std.specs.Prelude.{slice_index_or}
use Rattle.vs_clock.proofs.marks.marked.Given as goal

abbrev pub invariant-loop-input : goal.invariant-loop-input
invariant-loop-input l = l.kept.items ≡ filter (λ b. slice_index_or l.marks b false) (take l.input-index l.inputs)
