use Rattle.std.proofs.Common.{refl, ap, string_bytes}
use Rattle.vs_desk.specs.Files.{holds_file}
use Rattle.vs_desk.specs.MemoryDesk as memory
use Rattle.vs_desk.specs.Place.{attached_in}
use Rattle.vs_desk.specs.Tape.{left_on, put_on}
use Rattle.vs_desk.proofs.Contents.{same_contents}
use Rattle.vs_desk.proofs.Failing.{fails_in}
use Rattle.vs_desk.proofs.Held.{held_attached, held_same, same_places, same_holds, same_bytes, same_at}
use Rattle.vs_desk.proofs.Tells.{placed_register, attached_contents, left_unattached, put_unattached, put_follows}
use Rattle.vs_desk.proofs.memory.MemoryDeskDesk.attach.Goals as goal

pub returns-then-next_fails-clause-failed : goal.returns-then-next_fails-clause-failed
unfolding memory.register memory.contents memory.holds memory.plan
returns-then-next_fails-clause-failed c = record { fails = c.count_attach.ensures (attached_in c.args.self.now.tapes); bytes = λ t. refl }

pub invariant_of-self-in-Ok : goal.invariant_of-self-in-Ok
invariant_of-self-in-Ok c = let e = c.in-Ok.ensures in record {
  positive = c.args.self.now.positive;
  held = held_attached (attached_in c.args.self.now.tapes) _ (holds_file c.args.self.now.files) _ c.args.place c.args.way (string_bytes c.args.path)
      c.args.self.now.held e.attached e.held e.found;
}

pub invariant_of-self-in-Err : goal.invariant_of-self-in-Err
invariant_of-self-in-Err c = record {
  positive = c.args.self.now.positive;
  held = held_same _ _ _ _ c.args.self.now.held (same_places c.args.self.now.tapes c.attach_tape.new.tapes c.in-Err.ensures.err) (same_holds c.args.self.now.files c.attach_tape.new.files c.in-Err.ensures.err_files);
}

pub returns-in-Ok-clause-attached : goal.returns-in-Ok-clause-attached
unfolding memory.register memory.contents memory.holds memory.plan
returns-in-Ok-clause-attached c = let e = c.in-Ok.ensures in record {
  register = placed_register (attached_in c.args.self.now.tapes) _ c.args.self.now.failures c.args.place c.args.way (string_bytes c.args.path) e.attached;
  bytes = λ t.
      attached_contents _ _ c.args.place c.args.way (string_bytes c.args.path) e.bytes e.left (put_follows c.args.self.now.report.items c.args.self.now.tapes c.attach_tape.new.tapes e.put)
      (λ p. left_unattached c.args.self.now.tapes c.args.place p c.requires.free)
      (λ p. put_unattached c.args.self.now.report.items c.args.self.now.tapes c.args.place p c.requires.no_report c.requires.free);
}

pub returns-in-Err-clause-failed : goal.returns-in-Err-clause-failed
unfolding memory.register memory.contents memory.holds memory.plan
returns-in-Err-clause-failed c = record {
  fails = fails_in _ _ c.args.self.now.failures c.count_attach-in-Err.new.self _ _ (same_places c.args.self.now.tapes c.attach_tape.new.tapes c.in-Err.ensures.err)
      (rw c.in-Err.ensures.path at c.count_attach-in-Err.ensures);
  bytes = λ t.
      let same = same_at c.args.self.now.tapes c.attach_tape.new.tapes c.in-Err.ensures.err in
      same_contents _ _ (same_bytes c.args.self.now.files c.attach_tape.new.files c.in-Err.ensures.err_files) (λ p. ap left_on (same p))
      (put_follows c.args.self.now.report.items c.args.self.now.tapes c.attach_tape.new.tapes (λ p. ap put_on (same p)));
}
