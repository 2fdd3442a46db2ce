use Rattle.vs_four.proofs.LogicLemmas.{and_complement}
use Rattle.vs_four.proofs.logic.without.Goals as goal

pub returns-clause-value : goal.returns-clause-value
returns-clause-value c = and_complement 64 c.args.word c.args.mask c.ranges.word.fits c.ranges.mask.fits
