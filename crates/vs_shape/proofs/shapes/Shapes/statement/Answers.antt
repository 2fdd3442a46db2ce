use Rattle.std.proofs.Common.{◌≡◌, subst}
use Rattle.vs_flat.specs.Arena.{Arena}
use Rattle.vs_shape.specs.Bodies.{body_of, body_of_statement, body_place}
use Rattle.vs_shape.proofs.shapes.Shapes.statement.Goals as goal

pub returns-clause-tree : goal.returns-clause-tree
returns-clause-tree c = subst (λ (y : Arena). body_of y c.args.s ≡ body_of_statement y (body_place y c.args.s) c.statement_of.result.now) c.flat.ensures.same c.statement_of.ensures.tree
