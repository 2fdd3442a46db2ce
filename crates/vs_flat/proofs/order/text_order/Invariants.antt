use Rattle.vs_flat.specs.DesignOf.{design_of}
use Rattle.vs_flat.specs.TextOrder.{IsNext}
use Rattle.vs_flat.proofs.TextOrder.{IsToldTo}
use Rattle.vs_flat.proofs.order.text_order.Given as goal

abbrev pub invariant-loop-process : goal.invariant-loop-process
invariant-loop-process l = IsToldTo (design_of l.flat) l.process l.order.items × IsNext (design_of l.flat) l.process l.next
