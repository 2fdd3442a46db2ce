use Rattle.std.proofs.Common.{ap, arith}
use Rattle.vs_design.proofs.WidthExact.{width_most}
use Rattle.vs_sets.specs.Nodes.{tree_of}
use Rattle.vs_shape.specs.declared.shape.Shape.{Shape}
use Rattle.vs_interpret.proofs.evaluator.Evaluator.own_context.Goals as goal

pub returns-clause-few : goal.returns-clause-few
returns-clause-few c = omega (arith, width_most (tree_of c.args.self.now.shapes.now c.args.e) c.requires.fit, c.context.ensures.width, ap (λ (s : Shape). s.width) c.shape.ensures)
