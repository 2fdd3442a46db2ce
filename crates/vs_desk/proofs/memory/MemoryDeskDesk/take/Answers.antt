use Rattle.std.proofs.Common.{rules, refl}
use Rattle.std.proofs.Math.Path.{fun_ext}
use Rattle.std.specs.Ordering.{nat_cmp}
use Rattle.std.specs.BTreeMap.{get}
use Rattle.vs_desk.specs.MemoryDesk as memory
use Rattle.vs_desk.specs.Tape.{left_on}
use Rattle.vs_desk.specs.Place.{attached_in}
use Rattle.vs_desk.specs.Files.{holds_file}
use Rattle.vs_desk.proofs.Contents.{same_contents}
use Rattle.vs_desk.proofs.Held.{held_same}
use Rattle.vs_desk.proofs.Tells.{same_register, put_follows, none_left}
use Rattle.vs_desk.proofs.memory.MemoryDeskDesk.take.Goals as goal

pub returns-then-next_fails-clause-failed : goal.returns-then-next_fails-clause-failed
unfolding memory.register memory.contents memory.holds memory.plan
returns-then-next_fails-clause-failed c = record { fails = c.count.ensures (attached_in c.args.self.now.tapes); bytes = λ t. refl }

pub invariant_of-self-2 : goal.invariant_of-self-2
invariant_of-self-2 c = record {
  positive = c.args.self.now.positive;
  held = held_same _ _ (holds_file c.args.self.now.files) _ c.args.self.now.held c.take_from.ensures.attached (λ q. refl);
}

pub returns-clause-taken : goal.returns-clause-taken
unfolding memory.register memory.contents memory.holds memory.plan
returns-clause-taken c = let e = c.take_from.ensures in record {
  same = same_register _ _ c.args.self.now.failures e.attached;
  available = λ t. search rules;
  bytes = λ t. same_contents _ _ (λ q. refl) e.left (put_follows c.args.self.now.report.items c.args.self.now.tapes c.take_from.new.tapes e.put);
  end = λ t none. none_left (left_on (get nat_cmp c.args.self.now.tapes c.args.place)) _ _ _ e.count c.args.self.now.positive c.requires.room none;
}

pub returns-clause-places : goal.returns-clause-places
unfolding memory.register memory.contents memory.holds memory.plan
returns-clause-places c = fun_ext c.take_from.ensures.attached
