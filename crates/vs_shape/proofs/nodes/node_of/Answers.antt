use Rattle.vs_shape.proofs.Names.{names_of_node, calls_of_node}
use Rattle.vs_shape.proofs.nodes.node_of.Goals as goal

pub returns-clause-names : goal.returns-clause-names
returns-clause-names c = names_of_node c.names_law.ensures.expressions c.args.flat.now c.requires.lawful c.args.e c.expr.result.now c.expr.ensures

pub returns-clause-calls : goal.returns-clause-calls
returns-clause-calls c = calls_of_node c.names_law.ensures.calls c.args.flat.now c.requires.lawful c.args.e c.expr.result.now c.expr.ensures
