use Rattle.std.proofs.Common.{◌∙◌, arith}
use Rattle.std.proofs.lemmas.List.{length-set}
use Rattle.vs_interpret.proofs.Spreading.{one_more}
use Rattle.vs_interpret.proofs.targets.spread.Goals as goal

pub loop-n-preserved : goal.loop-n-preserved
loop-n-preserved c = (
  length-set c.loop-n.all c.loop-n.n c.get.result ∙ c.loop-n.invariant.0,
  one_more c.loop-n.all c.args.value c.loop-n.n c.get.result (omega (arith, c.loop-n.invariant.0, c.loop-n-test.true, c.len-n-end.ensures.at_most_64)) c.get.ensures c.loop-n.invariant.1,
)
