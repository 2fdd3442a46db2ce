use Rattle.vs_values.proofs.Tables.{bounds_of_all, bounds_of_next, bounds_are_there, bounded_names}
use Rattle.vs_values.proofs.templates.bounds_law.Goals as goal

pub returns-clause-all : goal.returns-clause-all
returns-clause-all c = bounds_of_all

pub returns-clause-next : goal.returns-clause-next
returns-clause-next c = bounds_of_next

pub returns-clause-there : goal.returns-clause-there
returns-clause-there c = bounds_are_there c.calls_law.ensures.bodies

pub returns-clause-names : goal.returns-clause-names
returns-clause-names c = bounded_names c.calls_law.ensures.names c.names_law.ensures.statements
