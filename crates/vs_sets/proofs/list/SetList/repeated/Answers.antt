use Rattle.std.proofs.Common.{arith}
use Rattle.vs_sets.proofs.Steps.{moved, repeat_step}
use Rattle.vs_sets.proofs.list.SetList.repeated.Goals as goal

pub loop-i-preserved : goal.loop-i-preserved
loop-i-preserved c =
    rw (c.append.ensures, c.as_slice.ensures.value) (moved c.loop-i.list c.args.self.now _ _ _ c.loop-i.invariant (repeat_step c.args.count c.loop-i._i c.args.self.now (omega arith)))
