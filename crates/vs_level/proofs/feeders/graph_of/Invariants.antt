use Rattle.vs_flat.specs.DesignOf.{design_of}
use Rattle.vs_level.specs.Feeders.{IsGraphUpTo}
use Rattle.vs_level.proofs.feeders.graph_of.Given as goal

abbrev pub invariant-loop-p : goal.invariant-loop-p
invariant-loop-p l = IsGraphUpTo (design_of l.flat) l.p l.graph
