use Rattle.std.proofs.Common.{length, ap, arith}
use Rattle.vs_flat.specs.Arena.{Arena}
use Rattle.vs_flat.specs.DesignOf.{design_of}
use Rattle.vs_typed.proofs.SizeSteps.{weights_step, weights_all}
use Rattle.vs_typed.proofs.sizes.each_weight.Goals as goal

pub loop-p-preserved : goal.loop-p-preserved
loop-p-preserved c =
    let a = c.args.shapes.now in
    let counts = c.trees_law.ensures.counts a in
    let same = ap (λ (y : Arena). length y.processes) c.flat.ensures.same in
    weights_step (design_of a).processes c.loop-p.p c.loop-p.weights.items c.push.new.self.items c.in_ok-weight.weight (omega (arith, c.loop-p-test.true, c.process_count-p-end.ensures.count, counts.processes, same)) c.loop-p.invariant c.in_ok-push.ensures.items
    (λ x at. c.in_ok-weight.ensures x at)

pub returns : goal.returns
returns c =
    let a = c.args.shapes.now in
    let counts = c.trees_law.ensures.counts a in
    let same = ap (λ (y : Arena). length y.processes) c.flat.ensures.same in
    weights_all (design_of a).processes c.loop-p.p c.loop-p.weights.items (omega (arith, c.loop-p-test.false, c.process_count-p-end.ensures.count, counts.processes, same)) c.loop-p.invariant
