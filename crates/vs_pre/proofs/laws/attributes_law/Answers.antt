use Rattle.vs_pre.proofs.AttributeFacts.{attributes_skipped}
use Rattle.vs_pre.proofs.laws.attributes_law.Goals as goal

pub returns : goal.returns
returns c = attributes_skipped
