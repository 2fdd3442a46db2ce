use Rattle.std.proofs.Common.{length, sym, ap, ◌∙◌, subst, arith}
use Rattle.vs_flat.specs.Arena.{Arena}
use Rattle.vs_typed.specs.Weights.{AreWeights}
use Rattle.vs_typed.proofs.FunctionSteps.{weight_pushed, one_longer}
use Rattle.vs_typed.proofs.functions.function_weights.Goals as goal

pub loop-f-preserved : goal.loop-f-preserved
loop-f-preserved c =
    let a = c.args.shapes.now in
    let table = c.loop-f.table.items in
    let same = ap (λ (y : Arena). length y.bodies) c.flat.ensures.same in
    let pushed = weight_pushed a table c.loop-f.f c.in_ok-weight.weight c.loop-f.invariant.0 (sym c.loop-f.invariant.1) (omega (arith, c.loop-f-test.true, c.function_count-f-end.ensures, same)) c.in_ok-weight.ensures in
    (subst (AreWeights a) (sym c.in_ok-push.ensures.items) pushed, ap length c.in_ok-push.ensures.items ∙ one_longer table c.loop-f.f c.in_ok-weight.weight c.loop-f.invariant.1)
