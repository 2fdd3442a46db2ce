use Rattle.std.proofs.Common.{arith, ap}
use Rattle.vs_design.proofs.WidthExact.{width_most}
use Rattle.vs_shape.specs.Nodes.{tree_of}
use Rattle.vs_shape.specs.declared.shape.Shape.{Shape}
use Rattle.vs_clock.proofs.compared.shared_context.Goals as goal

pub returns-clause-width : goal.returns-clause-width
returns-clause-width c =
    let a = c.args.shapes.now in
    omega (
      arith,
      c.shared.ensures.width,
      c.context-left.ensures.width,
      c.context-right.ensures.width,
      ap (λ (s : Shape). s.width) c.shape.ensures,
      ap (λ (s : Shape). s.width) c.shape-2.ensures,
      width_most (tree_of a c.args.a) c.requires.left_fits,
      width_most (tree_of a c.args.b) c.requires.right_fits,
    )

pub returns-clause-most : goal.returns-clause-most
returns-clause-most c =
    let a = c.args.shapes.now in
    omega (
      arith,
      c.shared.ensures.width,
      c.context-left.ensures.width,
      c.context-right.ensures.width,
      ap (λ (s : Shape). s.width) c.shape.ensures,
      ap (λ (s : Shape). s.width) c.shape-2.ensures,
      width_most (tree_of a c.args.a) c.requires.left_fits,
      width_most (tree_of a c.args.b) c.requires.right_fits,
    )
