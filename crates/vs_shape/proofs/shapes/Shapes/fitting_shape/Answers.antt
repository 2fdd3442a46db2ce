use Rattle.std.proofs.Common.{ap, arith}
use Rattle.vs_design.proofs.WidthExact.{width_most}
use Rattle.vs_shape.specs.Nodes.{tree_of}
use Rattle.vs_shape.specs.declared.shape.Shape.{Shape}
use Rattle.vs_shape.proofs.shapes.Shapes.fitting_shape.Goals as goal

pub returns-clause-most : goal.returns-clause-most
returns-clause-most c = omega (arith, ap (λ (s : Shape). s.width) c.shape.ensures, width_most (tree_of c.args.self.now c.args.e) c.requires.fits)
