use Rattle.std.proofs.Common.{◌≡◌, Some, ap, ◌∙◌, subst}
use Rattle.vs_design.specs.Refusals.{least}
use Rattle.vs_flat.specs.declared.functions.Body.{Body}
use Rattle.vs_flat.specs.Arena.{Arena, body_at}
use Rattle.vs_shape.specs.Bodies.{body_of}
use Rattle.vs_typed.specs.Places.{statement_places}
use Rattle.vs_typed.proofs.FunctionSteps.{same_body}
use Rattle.vs_typed.proofs.functions.least_function.Goals as goal

pub returns : goal.returns
returns c b is at =
    let a = c.args.shapes.now in
    let found = subst (λ (y : Arena). body_at y c.args.f ≡ Some c.body-body.result) c.flat.ensures.same c.body-body.ensures in
    c.least_statement.ensures at ∙ ap (λ (y : Body). least (statement_places c.args.rule at (body_of a y.statement))) (same_body a c.args.f c.body-body.result b found is)
