use Rattle.vs_cone.proofs.Lists.{few_are_apart, ascending_once}
use Rattle.vs_cone.proofs.list_law.Goals as goal

pub returns-clause-few : goal.returns-clause-few
returns-clause-few c = few_are_apart

pub returns-clause-ascending : goal.returns-clause-ascending
returns-clause-ascending c = ascending_once c.footprint_law.ensures.ascending
