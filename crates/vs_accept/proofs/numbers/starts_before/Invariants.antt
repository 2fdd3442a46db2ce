use Rattle.vs_flat.specs.DesignOf.{design_of}
use Rattle.vs_accept.proofs.Numbered.{AllBefore}
use Rattle.vs_accept.proofs.numbers.starts_before.Given as goal

abbrev pub invariant-loop-k : goal.invariant-loop-k
invariant-loop-k l = AllBefore (design_of l.flat).initials l.process l.k
