use Rattle.vs_sets.proofs.Steps.{pairs_fit}
use Rattle.vs_sets.specs.Choosing.{chosen}
use Rattle.vs_sets.proofs.bitwise.set_choose.Goals as goal

pub push-requires : goal.push-requires
push-requires c = pairs_fit (chosen c.args.condition) c.loop-i.list c.args.p.now c.args.q.now c.loop-i.i 64 c.loop-i.invariant c.requires.same_length c.loop-i-test.true c.requires.most
