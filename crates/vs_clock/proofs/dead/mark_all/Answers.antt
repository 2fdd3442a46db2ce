use Rattle.std.proofs.Common.{◌+◌, List, Bool, get_or, sym, subst, arith}
use Rattle.vs_reads.proofs.Tests.{member_at}
use Rattle.vs_clock.proofs.Marking.{AreMarked, none_marked_yet, marked_more, all_marked}
use Rattle.vs_clock.proofs.dead.mark_all.Goals as goal

pub loop-bit-init : goal.loop-bit-init
loop-bit-init c = none_marked_yet c.args.bits.now c.args.marks.now.items

pub set_mark-requires : goal.set_mark-requires
set_mark-requires c =
    let l = c.requires (get_or c.args.bits.now c.loop-bit.bit-index 0) (member_at c.args.bits.now c.loop-bit.bit-index c.loop-bit-test.true) in
    let m = c.loop-bit.invariant.long in
    omega (arith, l, m)

pub loop-bit-preserved : goal.loop-bit-preserved
loop-bit-preserved c =
    let l = c.requires (get_or c.args.bits.now c.loop-bit.bit-index 0) (member_at c.args.bits.now c.loop-bit.bit-index c.loop-bit-test.true) in
    let m = c.loop-bit.invariant.long in
    subst (λ (ms : List Bool). AreMarked c.args.bits.now c.args.marks.now.items ms (c.loop-bit.bit-index + 1)) (sym c.set_mark.ensures)
    (marked_more c.args.bits.now c.args.marks.now.items c.loop-bit.marks.items c.loop-bit.bit-index c.loop-bit-test.true (omega (arith, l, m)) c.loop-bit.invariant)

pub returns-clause-count : goal.returns-clause-count
returns-clause-count c = c.loop-bit.invariant.long

pub returns-clause-marks : goal.returns-clause-marks
returns-clause-marks c = all_marked c.args.bits.now c.args.marks.now.items c.loop-bit.marks.items c.loop-bit.bit-index c.loop-bit-test.false c.loop-bit.invariant
