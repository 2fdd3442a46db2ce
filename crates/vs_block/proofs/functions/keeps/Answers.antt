use Rattle.std.proofs.Common.{ap, ◌∙◌}
use Rattle.std.specs.Prelude.{is_some}
use Rattle.vs_shape.specs.Bodies.{body_of}
use Rattle.vs_design.specs.Latches.{latch_bits}
use Rattle.vs_block.proofs.Latching.{some_least}
use Rattle.vs_block.proofs.functions.keeps.Goals as goal

pub returns : goal.returns
returns c = c.is_some.ensures ∙ ap is_some c.in_ok-latch.ensures ∙ some_least (latch_bits (body_of c.args.shapes.now c.args.s))
