use Rattle.vs_design.specs.Sets.{union}
use Rattle.vs_sets.proofs.Steps.{pairs_fit}
use Rattle.vs_sets.proofs.words.united.Goals as goal

pub push-requires : goal.push-requires
push-requires c = pairs_fit union c.loop-i.list c.args.a.now c.args.b.now c.loop-i.i 64 c.loop-i.invariant c.requires.same_length c.loop-i-test.true c.requires.most
