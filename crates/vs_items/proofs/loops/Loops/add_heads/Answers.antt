use Rattle.std.proofs.Common.{List, map, ap, ◌∙◌}
use Rattle.std.proofs.lemmas.List.{take_all}
use Rattle.vs_items.specs.declared.loops.Head.{Head}
use Rattle.vs_items.specs.Loops.{and_heads, head}
use Rattle.vs_items.proofs.LoopSteps.{heads_none, heads_more}
use Rattle.vs_items.proofs.loops.Loops.add_heads.Goals as goal

pub loop-h-init : goal.loop-h-init
loop-h-init c = heads_none c.args.self.now

pub loop-h-preserved : goal.loop-h-preserved
loop-h-preserved c = heads_more c.args.self.now c.args.heads.now c.loop-h.h-index _ c.loop-h.self c.add_one.new.self c.loop-h-test.true c.loop-h.invariant c.in_ok-add_one.ensures

pub returns : goal.returns
returns c = c.loop-h.invariant ∙ ap (λ (xs : List Head). and_heads c.args.self.now (map head xs)) (take_all c.loop-h.h-index c.args.heads.now c.loop-h-test.false)
