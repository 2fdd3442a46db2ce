use Rattle.std.proofs.Common.{length, ap, ◌∙◌, arith}
use Rattle.vs_flat.specs.Arena.{Arena}
use Rattle.vs_flat.specs.DesignOf.{design_of}
use Rattle.vs_sets.proofs.FlagSteps.{all_behind}
use Rattle.vs_sets.proofs.flags.still_flags.Goals as goal

pub returns-clause-is : goal.returns-clause-is
returns-clause-is c b =
    let a = c.args.shapes.now in
    let counts = c.trees_law.ensures.counts a in
    let same = ap (λ (y : Arena). length y.initials) c.flat.ensures.same in
    c.loop-k.invariant.1 b ∙ all_behind (design_of a) c.loop-k.k b (omega (arith, c.loop-k-test.false, c.loop-k.auto.k-end, c.initial_count-k-end.ensures.count, counts.initials, same))
