use Rattle.std.proofs.Common.{ap, arith}
use Rattle.vs_sets.specs.Nodes.{tree_of}
use Rattle.vs_sets.proofs.Fit.{fit_width}
use Rattle.vs_zero.proofs.constants.assigned_value.Goals as goal

pub value-value-requires-clause-fits : goal.value-value-requires-clause-fits
value-value-requires-clause-fits c =
    let few = fit_width (tree_of c.args.shapes.now c.args.e) c.requires.fit in
    omega (arith, ap (λ s. s.width) c.shape-shape.ensures, few.0, few.1)

pub value-value-requires-clause-most : goal.value-value-requires-clause-most
value-value-requires-clause-most c =
    let few = fit_width (tree_of c.args.shapes.now c.args.e) c.requires.fit in
    omega (arith, ap (λ s. s.width) c.shape-shape.ensures, few.0, few.1, c.requires.few.1)
