use Rattle.vs_values.proofs.Inlined.{AreFirst}
use Rattle.vs_values.proofs.inlining.inline.Given as goal

abbrev pub invariant-loop-n : goal.invariant-loop-n
invariant-loop-n l = AreFirst l.template l.renaming.names.items l.renaming.first l.n l.initial.code l.code
