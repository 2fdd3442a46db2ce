use Rattle.std.proofs.Common.{length, ap, arith}
use Rattle.vs_design.specs.Sizes.{process_weight}
use Rattle.vs_flat.specs.Arena.{Arena}
use Rattle.vs_flat.specs.DesignOf.{design_of}
use Rattle.vs_typed.proofs.SizeSteps.{sum_step}
use Rattle.vs_typed.proofs.sizes.add_processes.Goals as goal

pub loop-p-preserved : goal.loop-p-preserved
loop-p-preserved c =
    let a = c.args.shapes.now in
    let counts = c.trees_law.ensures.counts a in
    let same = ap (λ (y : Arena). length y.processes) c.flat.ensures.same in
    sum_step process_weight (design_of a).processes c.loop-p.p 0 c.loop-p.sum c.in_ok-sum.sum (omega (arith, c.loop-p-test.true, c.process_count-p-end.ensures.count, counts.processes, same)) c.loop-p.invariant (λ x at. c.in_ok-sum.ensures x at)
