use Rattle.std.proofs.Common.{length, subst, arith}
use Rattle.vs_shape.specs.Nodes.{HasNames}
use Rattle.vs_clock.proofs.form.inverted_bit.Goals as goal

pub named_bit-requires-clause-there : goal.named_bit-requires-clause-there
named_bit-requires-clause-there c =
    let below = subst (HasNames (length c.args.flat.now.signals) c.args.e) c.in-Unary.is c.node_of.ensures.names in
    omega (arith, below, c.requires.there)

pub named_bit-requires-in-LogicalNot-clause-there : goal.named_bit-requires-in-LogicalNot-clause-there
named_bit-requires-in-LogicalNot-clause-there c =
    let below = subst (HasNames (length c.args.flat.now.signals) c.args.e) c.in-Unary.is c.node_of.ensures.names in
    omega (arith, below, c.requires.there)
