use Rattle.std.proofs.Common.{length, ap, arith}
use Rattle.vs_sets.specs.Nodes.{tree_of}
use Rattle.vs_sets.proofs.Fit.{fit_width}
use Rattle.vs_sets.proofs.lifter.Lifter.taken.Goals as goal

pub surely_inside-sure-requires-clause-some : goal.surely_inside-sure-requires-clause-some
surely_inside-sure-requires-clause-some c =
    let some = fit_width (tree_of c.args.self.now.shapes.now c.args.index) c.requires.fit in
    omega (arith, some.0, c.requires.many, ap length c.as_slice-2.ensures.value)
