use Rattle.vs_net.specs.Queue.{Rise}
use Rattle.vs_flat.specs.DesignOf.{design_of}
use Rattle.vs_queue.proofs.Levelling.{first_gone}
use Rattle.vs_queue.proofs.Listened.{item_got}
use Rattle.vs_queue.proofs.Vectors.{some_drive, first_given}
use Rattle.vs_queue.proofs.plain.first_plain_period.Goals as goal

pub first_slot-requires-clause-given : goal.first_slot-requires-clause-given
first_slot-requires-clause-given c =
    let d = design_of c.args.machine.now.typed.now in
    let k = c.args.machine.now.clocks.now.bits in
    let drive = some_drive d k c.args.vectors.now c.requires.drive c.requires.there in
    (drive.first, first_given d k c.args.vectors.now c.index-vectors-0.result drive.first drive.later drive.given (item_got c.args.vectors.now 0 c.index-vectors-0.result c.index-vectors-0.is c.requires.there))

pub next_slot-requires-clause-slot : goal.next_slot-requires-clause-slot
next_slot-requires-clause-slot c = (Rise, tt)

pub returns-clause-goes : goal.returns-clause-goes
returns-clause-goes c =
    let d = design_of c.args.machine.now.typed.now in
    let k = c.args.machine.now.clocks.now.bits in
    first_gone d k c.args.order.now c.args.vectors.now c.index-vectors-0.result (item_got c.args.vectors.now 0 c.index-vectors-0.result c.index-vectors-0.is c.requires.there)
    c.in_ok-run.run'.events c.next_slot.new.run.events c.in_ok-run.run'.ends c.next_slot.new.run.ends c.in_ok-run.ensures.levelled (c.in_ok-next_slot.ensures.levelled Rise tt)

pub returns-clause-whole : goal.returns-clause-whole
returns-clause-whole c = c.in_ok-next_slot.ensures.whole 0 c.in_ok-run.ensures.whole
