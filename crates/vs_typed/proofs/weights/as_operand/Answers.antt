use Rattle.std.proofs.Common.{ap, arith}
use Rattle.vs_shape.specs.Nodes.{tree_of}
use Rattle.vs_sets.proofs.Fit.{fit_width}
use Rattle.vs_typed.proofs.weights.as_operand.Goals as goal

pub returns-clause-width : goal.returns-clause-width
returns-clause-width c =
    let few = fit_width (tree_of c.args.shapes.now c.args.e) c.requires.fit in
    omega (arith, few.1, c.from.ensures, ap (λ s. s.width) c.shape-shape.ensures)
