use Rattle.std.proofs.Common.{◌∙◌}
use Rattle.vs_shape.specs.Bodies.{body_of}
use Rattle.vs_typed.proofs.Fixed.{fixed_is}
use Rattle.vs_typed.proofs.constant.is_fixed.Goals as goal

pub returns : goal.returns
returns c = c.is_still.ensures ∙ fixed_is (body_of c.args.shapes.now c.args.s)
