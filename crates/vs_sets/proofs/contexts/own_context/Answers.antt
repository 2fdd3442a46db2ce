use Rattle.std.proofs.Common.{ap, arith}
use Rattle.vs_sets.specs.Nodes.{tree_of}
use Rattle.vs_sets.proofs.Fit.{fit_width}
use Rattle.vs_sets.proofs.contexts.own_context.Goals as goal

pub returns-clause-width : goal.returns-clause-width
returns-clause-width c =
    let few = fit_width (tree_of c.args.shapes.now c.args.e) c.requires.fit in
    omega (arith, ap (λ s. s.width) c.shape.ensures, few.0, few.1)

pub returns-clause-few : goal.returns-clause-few
returns-clause-few c =
    let few = fit_width (tree_of c.args.shapes.now c.args.e) c.requires.fit in
    (omega (arith, ap (λ s. s.width) c.shape.ensures, few.0, few.1), omega (arith, ap (λ s. s.width) c.shape.ensures, few.0, few.1))
