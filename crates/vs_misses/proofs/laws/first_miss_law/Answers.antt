use Rattle.vs_misses.proofs.Firsts.{none_is_missed, first_is_missed}
use Rattle.vs_misses.proofs.laws.first_miss_law.Goals as goal

pub returns-clause-none : goal.returns-clause-none
returns-clause-none c = none_is_missed

pub returns-clause-first : goal.returns-clause-first
returns-clause-first c = first_is_missed
