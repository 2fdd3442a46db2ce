use Rattle.std.proofs.Common.{refl}
use Rattle.vs_desk.specs.MemoryDesk as memory
use Rattle.vs_desk.specs.Place.{attached_in}
use Rattle.vs_desk.proofs.memory.MemoryDeskDesk.flush.Goals as goal

pub returns-then-next_fails-clause-failed : goal.returns-then-next_fails-clause-failed
unfolding memory.register memory.contents memory.holds memory.plan
returns-then-next_fails-clause-failed c = record { fails = c.count.ensures (attached_in c.args.self.now.tapes); bytes = λ t. refl }
