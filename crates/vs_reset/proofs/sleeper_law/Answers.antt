use Rattle.vs_reset.proofs.Sleepers.{finish_is_call, sleeper_calls_are, wake_is_calls, writes_some}
use Rattle.vs_reset.proofs.sleeper_law.Goals as goal

pub returns-clause-calls : goal.returns-clause-calls
returns-clause-calls c = sleeper_calls_are c.sequence_law.ensures.both c.write_law.ensures c.list_law.ensures.few c.lawful_law.ensures.lawful c.footprint_law.ensures.bits c.program_law.ensures.masks

pub returns-clause-wake : goal.returns-clause-wake
returns-clause-wake c = wake_is_calls

pub returns-clause-finish : goal.returns-clause-finish
returns-clause-finish c = finish_is_call

pub returns-clause-some : goal.returns-clause-some
returns-clause-some c = writes_some
