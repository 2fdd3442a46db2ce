use Rattle.std.proofs.Common.{length, ap, ◌∙◌, arith}
use Rattle.vs_flat.specs.Arena.{Arena}
use Rattle.vs_flat.specs.DesignOf.{design_of}
use Rattle.vs_sets.proofs.FlagSteps.{none_behind}
use Rattle.vs_sets.proofs.flags.process_flags.Goals as goal

pub returns-clause-is : goal.returns-clause-is
returns-clause-is c b =
    let a = c.args.shapes.now in
    let counts = c.trees_law.ensures.counts a in
    let same = ap (λ (y : Arena). length y.processes) c.flat.ensures.same in
    c.loop-p.invariant.1 b ∙ none_behind (design_of a) c.loop-p.p b (omega (arith, c.loop-p-test.false, c.loop-p.auto.p-end, c.process_count-p-end.ensures.count, counts.processes, same))
