use Rattle.vs_code.proofs.Weights.{all_weigh}
use Rattle.vs_code.proofs.laws.weight_law.Goals as goal

pub returns : goal.returns
returns c = all_weigh
