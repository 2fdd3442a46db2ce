use Rattle.vs_refusal.proofs.Chained.{all_nothing}
use Rattle.vs_explainer.proofs.endings.put_paths.Goals as goal

pub returns-in-Some : goal.returns-in-Some
returns-in-Some g c = rw c.in-Some.is c.put_waves.ensures

pub returns-in-None : goal.returns-in-None
returns-in-None g c = rw c.in-None.is (all_nothing c.put_law.ensures.nothing _ tt)
