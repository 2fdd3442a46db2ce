use Rattle.std.proofs.Common.{◌+◌, refl, arith}
use Rattle.vs_net.specs.Queue.{Fall, Rise}
use Rattle.vs_flat.specs.DesignOf.{design_of}
use Rattle.vs_queue.proofs.Executed.{on_ok}
use Rattle.vs_queue.proofs.Levelling.{next_gone}
use Rattle.vs_queue.proofs.Listened.{item_got}
use Rattle.vs_queue.proofs.Vectors.{some_drive, next_slot}
use Rattle.vs_queue.proofs.Wholes.{whole_as}
use Rattle.vs_queue.proofs.plain.next_plain_period.Goals as goal

pub next_slot-requires-clause-slot : goal.next_slot-requires-clause-slot
next_slot-requires-clause-slot c =
    let d = design_of c.args.machine.now.typed.now in
    let k = c.args.machine.now.clocks.now.bits in
    next_slot d k 0 c.args.vectors.now (some_drive d k c.args.vectors.now c.requires.drive (let l = c.requires.there in omega (arith, l))) c.args.k c.index-vectors-k.result (item_got c.args.vectors.now c.args.k c.index-vectors-k.result c.index-vectors-k.is c.requires.there)

pub next_slot-requires-2-clause-slot : goal.next_slot-requires-2-clause-slot
next_slot-requires-2-clause-slot c = (Rise, tt)

pub returns-clause-goes : goal.returns-clause-goes
returns-clause-goes c = λ come.
    let d = design_of c.args.machine.now.typed.now in
    let k = c.args.machine.now.clocks.now.bits in
    on_ok c.next_slot-2.result c.next_slot-2.ensures.levelled (λ rises.
    next_gone d k c.args.order.now c.args.vectors.now c.args.k c.index-vectors-k.result (item_got c.args.vectors.now c.args.k c.index-vectors-k.result c.index-vectors-k.is c.requires.there)
    c.args.run.now.events c.next_slot.new.run.events c.next_slot-2.new.run.events c.args.run.now.ends c.next_slot.new.run.ends c.next_slot-2.new.run.ends come
    (λ v is. c.in_ok-next_slot.ensures.levelled (Fall v) is) (rises Rise tt))

pub returns-clause-whole : goal.returns-clause-whole
returns-clause-whole c = λ count w.
    let d = design_of c.args.machine.now.typed.now in
    let k = c.args.machine.now.clocks.now.bits in
    on_ok c.next_slot-2.result (c.next_slot-2.ensures.whole (count + 1) (c.in_ok-next_slot.ensures.whole count w)) (λ h. whole_as d k (count + 1 + 1) (count + 2) c.next_slot-2.new.run.ends c.next_slot-2.new.run.ends (omega arith) refl h)
