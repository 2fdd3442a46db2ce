use Rattle.vs_assemble.proofs.Copying.{copy_is_call}
use Rattle.vs_assemble.proofs.laws.copy_law.Goals as goal

pub returns : goal.returns
returns c = copy_is_call c.sources_law.ensures c.list_law.ensures.few
