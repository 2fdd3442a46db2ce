use Rattle.std.proofs.Common.{List, map, ap, ◌∙◌}
use Rattle.std.proofs.lemmas.List.{take_all}
use Rattle.vs_const.specs.Faults.{least}
use Rattle.vs_elaborated.specs.Heads.{shared_heads}
use Rattle.vs_items.specs.declared.loops.Head.{Head}
use Rattle.vs_items.specs.Loops.{head}
use Rattle.vs_items.proofs.LoopSteps.{shared_more}
use Rattle.vs_items.proofs.loops.Loops.shared_fault.Goals as goal

pub loop-h-preserved : goal.loop-h-preserved
loop-h-preserved c =
    shared_more c.args.self.now.headed c.args.heads.now c.loop-h.h-index _ c.loop-h.fault c.head_fault-found.result c.first_of-fault.result c.loop-h-test.true c.first_of-fault.ensures c.loop-h.invariant c.head_fault-found.ensures

pub returns : goal.returns
returns c = c.loop-h.invariant ∙ ap (λ (xs : List Head). least (shared_heads c.args.self.now.headed (map head xs))) (take_all c.loop-h.h-index c.args.heads.now c.loop-h-test.false)
