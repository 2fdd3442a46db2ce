use Rattle.std.proofs.Common.{refl}
use Rattle.std.specs.Fmt.{digits}
use Rattle.vs_bench.specs.Texts.{after, binary}
use Rattle.vs_bench.proofs.laws.bench_law.Goals as goal

pub returns-clause-states : goal.returns-clause-states
unfolding after
returns-clause-states c = (refl, refl, refl, refl)

pub returns-clause-texts : goal.returns-clause-texts
unfolding after binary
returns-clause-texts c = (refl, refl, refl, refl)

pub returns-clause-lengths : goal.returns-clause-lengths
unfolding after binary
returns-clause-lengths c = (refl, refl, refl)

pub returns-clause-paths : goal.returns-clause-paths
unfolding digits
returns-clause-paths c = (refl, refl)

pub returns-clause-files : goal.returns-clause-files
unfolding digits after binary
returns-clause-files c = (refl, refl, refl)
