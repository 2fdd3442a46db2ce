use Rattle.vs_flat.proofs.Different.{different_once, once_different}
use Rattle.vs_flat.proofs.laws.different_law.Goals as goal

pub returns : goal.returns
returns c = λ ns. (different_once ns, once_different ns)
