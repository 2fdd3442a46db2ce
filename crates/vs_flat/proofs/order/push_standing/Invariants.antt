use Rattle.vs_flat.specs.DesignOf.{design_of}
use Rattle.vs_flat.proofs.TextOrder.{Added}
use Rattle.vs_flat.proofs.order.push_standing.Given as goal

abbrev pub invariant-loop-k : goal.invariant-loop-k
invariant-loop-k l = Added (design_of l.flat) l.process l.k l.initial.order.items l.order.items
