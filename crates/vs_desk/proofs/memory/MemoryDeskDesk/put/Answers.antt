use Rattle.std.proofs.Common.{refl}
use Rattle.vs_desk.specs.MemoryDesk as memory
use Rattle.vs_desk.specs.Place.{attached_in}
use Rattle.vs_desk.proofs.Contents.{same_contents}
use Rattle.vs_desk.proofs.Failing.{fails_in}
use Rattle.vs_desk.proofs.Held.{held_same, held_at}
use Rattle.vs_desk.proofs.Tells.{same_register, put_contents}
use Rattle.vs_desk.proofs.memory.MemoryDeskDesk.put.Goals as goal

pub returns-then-next_fails-clause-failed : goal.returns-then-next_fails-clause-failed
unfolding memory.register memory.contents memory.holds memory.plan
returns-then-next_fails-clause-failed c = record { fails = c.count.ensures (attached_in c.args.self.now.tapes); bytes = λ t. refl }

pub put_to-requires-clause-held : goal.put_to-requires-clause-held
unfolding memory.register
put_to-requires-clause-held c = λ other. held_at _ _ _ (c.requires.writable other) (c.args.self.now.held c.args.place)

pub invariant_of-self-in-Ok : goal.invariant_of-self-in-Ok
invariant_of-self-in-Ok c = record {
  positive = c.args.self.now.positive;
  held = held_same _ _ _ _ c.args.self.now.held c.in-Ok.ensures.attached c.in-Ok.ensures.held;
}

pub invariant_of-self-in-Err : goal.invariant_of-self-in-Err
invariant_of-self-in-Err c = record {
  positive = c.args.self.now.positive;
  held = held_same _ _ _ _ c.args.self.now.held c.in-Err.ensures.attached c.in-Err.ensures.held;
}

pub returns-in-Ok-clause-put : goal.returns-in-Ok-clause-put
unfolding memory.register memory.contents memory.holds memory.plan
returns-in-Ok-clause-put c = let e = c.in-Ok.ensures in record {
  same = same_register _ _ c.args.self.now.failures e.attached;
  put = λ t. put_contents (memory.register c.args.self.now) (memory.contents c.args.self.now) _ c.args.place c.args.bytes.now e.bytes e.left e.put;
}

pub returns-in-Err-clause-failed : goal.returns-in-Err-clause-failed
unfolding memory.register memory.contents memory.holds memory.plan
returns-in-Err-clause-failed c = let e = c.in-Err.ensures in record {
  fails = fails_in _ _ c.args.self.now.failures c.count-in-Err.new.self _ _ e.attached c.count-in-Err.ensures;
  bytes = λ t. same_contents _ _ e.bytes e.left e.put;
}
