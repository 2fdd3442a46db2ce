use Rattle.vs_pre.proofs.Kept.{kept_are_tokens}
use Rattle.vs_pre.proofs.laws.kept_law.Goals as goal

pub returns : goal.returns
returns c = kept_are_tokens
