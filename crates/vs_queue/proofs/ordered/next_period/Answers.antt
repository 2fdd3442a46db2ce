use Rattle.std.proofs.Common.{◌+◌, refl, arith}
use Rattle.vs_flat.specs.DesignOf.{design_of}
use Rattle.vs_queue.proofs.Executed.{on_ok}
use Rattle.vs_queue.proofs.Listened.{item_got}
use Rattle.vs_queue.proofs.Vectors.{some_drive, next_slot, next_under_way, next_come}
use Rattle.vs_queue.proofs.Wholes.{whole_as}
use Rattle.vs_queue.proofs.ordered.next_period.Goals as goal

pub begin_slot-requires-clause-slot : goal.begin_slot-requires-clause-slot
begin_slot-requires-clause-slot c =
    next_slot (design_of c.args.machine.now.typed.now) c.args.machine.now.clocks.now.bits c.requires.come.0 c.args.vectors.now (some_drive (design_of c.args.machine.now.typed.now) c.args.machine.now.clocks.now.bits c.args.vectors.now c.requires.drive (let l = c.requires.there in omega (arith, l))) c.args.k c.index-vectors-k.result (item_got c.args.vectors.now c.args.k c.index-vectors-k.result c.index-vectors-k.is c.requires.there)

pub rise-requires-clause-under_way : goal.rise-requires-clause-under_way
rise-requires-clause-under_way c =
    let run = c.args.run.now in
    let next = c.begin_slot.new.run in
    next_under_way (design_of c.args.machine.now.typed.now) c.args.machine.now.clocks.now.bits c.requires.come.0 c.args.vectors.now (some_drive (design_of c.args.machine.now.typed.now) c.args.machine.now.clocks.now.bits c.args.vectors.now c.requires.drive (let l = c.requires.there in omega (arith, l))) c.args.k c.index-vectors-k.result (item_got c.args.vectors.now c.args.k c.index-vectors-k.result c.index-vectors-k.is c.requires.there)
    run.events next.events run.seed next.seed run.ends next.ends run.steps next.steps c.requires.come.1 c.in_ok-begin_slot.ensures.reached

pub returns-clause-come : goal.returns-clause-come
returns-clause-come c = λ order come.
    let run = c.args.run.now in
    let next = c.begin_slot.new.run in
    let last = c.rise.new.run in
    on_ok c.rise.result c.rise.ensures.reached (λ rises.
    next_come (design_of c.args.machine.now.typed.now) c.args.machine.now.clocks.now.bits order c.args.vectors.now (some_drive (design_of c.args.machine.now.typed.now) c.args.machine.now.clocks.now.bits c.args.vectors.now c.requires.drive (let l = c.requires.there in omega (arith, l))) c.args.k c.index-vectors-k.result (item_got c.args.vectors.now c.args.k c.index-vectors-k.result c.index-vectors-k.is c.requires.there)
    run.events next.events run.seed next.seed run.ends next.ends run.steps next.steps come c.in_ok-begin_slot.ensures.reached
    last.events last.seed last.ends last.steps rises)

pub returns-clause-whole : goal.returns-clause-whole
returns-clause-whole c = λ count w.
    let d = design_of c.args.machine.now.typed.now in
    let k = c.args.machine.now.clocks.now.bits in
    on_ok c.rise.result (c.rise.ensures.whole (count + 1) (c.in_ok-begin_slot.ensures.whole count w)) (λ h. whole_as d k (count + 1 + 1) (count + 2) c.rise.new.run.ends c.rise.new.run.ends (omega arith) refl h)
