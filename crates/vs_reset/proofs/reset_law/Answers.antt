use Rattle.vs_reset.proofs.Calls.{reset_calls_are, none_needed}
use Rattle.vs_reset.proofs.reset_law.Goals as goal

pub returns-clause-calls : goal.returns-clause-calls
returns-clause-calls c = reset_calls_are c.sources_law.ensures c.list_law.ensures.few c.write_law.ensures

pub returns-clause-none : goal.returns-clause-none
returns-clause-none c = none_needed
