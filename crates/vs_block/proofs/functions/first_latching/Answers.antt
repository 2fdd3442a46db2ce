use Rattle.std.proofs.Common.{length, take, ap, ◌∙◌, arith}
use Rattle.vs_design.specs.Rules.{function_latches}
use Rattle.vs_flat.specs.Arena.{Arena}
use Rattle.vs_flat.specs.DesignOf.{design_of}
use Rattle.vs_block.proofs.Latching.{function_there, latches_step, latches_all}
use Rattle.vs_block.proofs.functions.first_latching.Goals as goal

pub loop-f-preserved : goal.loop-f-preserved
loop-f-preserved c =
    let a = c.args.typed.now in
    let fs = (design_of a).functions in
    let f = c.loop-f.f in
    let lawful = c.flat.ensures.lawful in
    let same = ap (λ (y : Arena). length y.bodies) c.flat.ensures.same in
    let x = function_there c.trees_law.ensures.functions a lawful.names.matched f (omega (arith, c.loop-f-test.true, c.function_count-f-end.ensures, same)) in
    latches_step fs f x.0 c.in_ok-first.first x.1 (c.in_ok-first.ensures x.0 x.1 (function_latches (take f fs)) c.loop-f.invariant)

pub returns : goal.returns
returns c =
    let a = c.args.typed.now in
    let same = ap (λ (y : Arena). length y.bodies) c.flat.ensures.same in
    c.loop-f.invariant ∙ latches_all (design_of a).functions c.loop-f.f (omega (arith, c.loop-f-test.false, c.function_count-f-end.ensures, same, (c.trees_law.ensures.counts a).functions))
