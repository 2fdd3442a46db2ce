use Rattle.vs_reads.proofs.Table.{list_grown}
use Rattle.vs_level.proofs.writers.Writers.add.Goals as goal

pub returns : goal.returns
returns c = list_grown c.self.inside.of.items c.args.self.now c.args.bit c.args.p c.index_mut.result.now c.push.new.self c.self.view_is c.requires c.index_mut.ensures.value c.in_ok-push.ensures.ok
