use Rattle.std.proofs.Common.{sym, ◌∙◌, arith}
use Rattle.vs_shape.specs.Nodes.{tree_of}
use Rattle.vs_clock.proofs.Comparing.{beside_wide, equality_lengths}
use Rattle.vs_clock.proofs.compared.holds.Goals as goal

pub operand_value-first-requires-clause-within : goal.operand_value-first-requires-clause-within
operand_value-first-requires-clause-within c = omega (arith, c.shared_context-context.ensures.width)

pub operand_value-first-requires-clause-some : goal.operand_value-first-requires-clause-some
operand_value-first-requires-clause-some c = omega (arith, c.shared_context-context.ensures.width, beside_wide (tree_of c.args.shapes.now c.args.a) (tree_of c.args.shapes.now c.args.b) c.requires.named)

pub operand_value-second-requires-clause-within : goal.operand_value-second-requires-clause-within
operand_value-second-requires-clause-within c = omega (arith, c.shared_context-context.ensures.width)

pub operand_value-second-requires-clause-some : goal.operand_value-second-requires-clause-some
operand_value-second-requires-clause-some c = omega (arith, c.shared_context-context.ensures.width, beside_wide (tree_of c.args.shapes.now c.args.a) (tree_of c.args.shapes.now c.args.b) c.requires.named)

pub apply-requires : goal.apply-requires
apply-requires c = equality_lengths c.args.op c.operand_value-first.result c.operand_value-second.result c.requires.equality (c.operand_value-first.ensures.length ∙ sym c.operand_value-second.ensures.length)
