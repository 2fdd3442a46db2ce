use Rattle.std.proofs.Common.{◌+◌, ◌∷◌, refl}
use Rattle.vs_net.specs.Queue.{Rise}
use Rattle.vs_flat.specs.DesignOf.{design_of}
use Rattle.vs_queue.proofs.Ending.{still_under_way}
use Rattle.vs_queue.proofs.Executed.{on_ok}
use Rattle.vs_queue.proofs.Wholes.{whole_as}
use Rattle.vs_queue.proofs.machine.Machine.rise.Goals as goal

pub settle-requires-clause-under_way : goal.settle-requires-clause-under_way
settle-requires-clause-under_way c = c.requires.under_way.0

pub begin_slot-requires-clause-slot : goal.begin_slot-requires-clause-slot
begin_slot-requires-clause-slot c = (Rise, tt)

pub settle-requires-2-clause-under_way : goal.settle-requires-2-clause-under_way
settle-requires-2-clause-under_way c =
    let u = c.requires.under_way in
    still_under_way (design_of c.args.self.now.typed.now) c.args.self.now.clocks.now.bits c.args.run.now.events c.begin_slot.new.run.events c.args.run.now.seed c.begin_slot.new.run.seed c.args.run.now.ends c.begin_slot.new.run.ends c.args.run.now.steps c.begin_slot.new.run.steps u.1 u.0 u.2
    (λ from order r. c.in_ok-begin_slot.ensures.reached from order Rise u.1 tt (c.in_ok-settle.ensures.reached from order (Rise ∷ u.1) r))

pub returns-clause-reached : goal.returns-clause-reached
returns-clause-reached c =
    on_ok c.settle-2.result c.settle-2.ensures.reached (λ h from order slots r. h from order slots (c.in_ok-begin_slot.ensures.reached from order Rise slots tt (c.in_ok-settle.ensures.reached from order (Rise ∷ slots) r)))

pub returns-clause-whole : goal.returns-clause-whole
returns-clause-whole c = λ count w.
    let d = design_of c.args.self.now.typed.now in
    let k = c.args.self.now.clocks.now.bits in
    let first = whole_as d k count count c.args.run.now.ends c.settle.new.run.ends refl c.in_ok-settle.ensures.ends w in
    on_ok c.settle-2.result c.settle-2.ensures.ends (λ is. whole_as d k (count + 1) (count + 1) c.begin_slot.new.run.ends c.settle-2.new.run.ends refl is (c.in_ok-begin_slot.ensures.whole count first))
