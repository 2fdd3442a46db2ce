use Rattle.std.proofs.Common.{arith}
use Rattle.vs_flat.specs.DesignOf.{design_of}
use Rattle.vs_flat.proofs.Earlier.{slice_there}
use Rattle.vs_flat.proofs.TextOrder.{told_more}
use Rattle.vs_flat.proofs.order.text_order.Goals as goal

pub loop-process-preserved : goal.loop-process-preserved
loop-process-preserved c =
    let a = c.args.flat.now in
    let d = design_of a in
    let p = c.loop-process.process in
    let x = slice_there d.processes p (omega (arith, c.loop-process-test.true, c.process_count-process-end.ensures.count, (c.trees_law.ensures.counts a).processes)) in
    (told_more d p x.0 c.loop-process.order.items c.push_process.new.order.items x.1 c.in_ok-next.ensures.added c.loop-process.invariant.0, c.in_ok-next.ensures.next)
