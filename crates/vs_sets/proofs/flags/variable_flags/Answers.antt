use Rattle.std.proofs.Common.{length, ap, ◌∙◌, arith}
use Rattle.vs_flat.specs.Arena.{Arena}
use Rattle.vs_flat.specs.DesignOf.{arena_signals}
use Rattle.vs_sets.proofs.FlagSteps.{variables_all}
use Rattle.vs_sets.proofs.flags.variable_flags.Goals as goal

pub returns-clause-is : goal.returns-clause-is
returns-clause-is c b =
    let a = c.args.shapes.now in
    let counts = c.trees_law.ensures.counts a in
    let same = ap (λ (y : Arena). length y.signals) c.flat-flat.ensures.same in
    c.loop-n.invariant.1 b ∙ variables_all (arena_signals a) c.loop-n.n b (omega (arith, c.loop-n-test.false, c.loop-n.auto.n-end, c.signal_count-n-end.ensures.count, counts.signals, same))
