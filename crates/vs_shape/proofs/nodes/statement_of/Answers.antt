use Rattle.vs_shape.proofs.BodyNames.{names_of_statement, target_of_statement}
use Rattle.vs_shape.proofs.nodes.statement_of.Goals as goal

pub returns-clause-names : goal.returns-clause-names
returns-clause-names c = names_of_statement c.names_law.ensures.statements c.args.flat.now c.requires.lawful c.args.s c.statement.result.now c.statement.ensures

pub returns-clause-target : goal.returns-clause-target
returns-clause-target c = target_of_statement c.lawful_law.ensures.statement_targets c.args.flat.now c.requires.lawful c.args.s c.statement.result.now c.statement.ensures
