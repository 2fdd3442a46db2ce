use Rattle.std.proofs.Common.{◌+◌, List, Bool, get_or, refl, sym, subst, arith}
use Rattle.std.proofs.lemmas.List.{take_all}
use Rattle.vs_reads.proofs.Tests.{member_at}
use Rattle.vs_driver.proofs.Marking.{Marked, MarkedTo, none_marked, marked_more}
use Rattle.vs_driver.proofs.marks.mark.Goals as goal

pub loop-bit-init : goal.loop-bit-init
loop-bit-init c = record { told = none_marked c.args.marks.now.items; long = refl }

pub mark_if-requires : goal.mark_if-requires
mark_if-requires c =
    let l = c.requires (get_or c.args.bits.now c.loop-bit.bit-index 0) (member_at c.args.bits.now c.loop-bit.bit-index c.loop-bit-test.true) in
    let m = c.loop-bit.invariant.long in
    omega (arith, l, m)

pub loop-bit-preserved : goal.loop-bit-preserved
loop-bit-preserved c =
    let l = c.requires (get_or c.args.bits.now c.loop-bit.bit-index 0) (member_at c.args.bits.now c.loop-bit.bit-index c.loop-bit-test.true) in
    let m = c.loop-bit.invariant.long in
    subst (λ (ms : List Bool). MarkedTo c.args.marks.now.items ms c.args.bits.now (c.loop-bit.bit-index + 1)) (sym c.mark_if.ensures)
    (marked_more c.args.marks.now.items c.loop-bit.marks.items c.args.bits.now c.loop-bit.bit-index c.loop-bit-test.true (omega (arith, l, m)) c.loop-bit.invariant)

pub returns-clause-all : goal.returns-clause-all
returns-clause-all c = c.loop-bit.invariant.long

pub returns-clause-marked : goal.returns-clause-marked
returns-clause-marked c = subst (Marked c.args.marks.now.items c.loop-bit.marks.items) (take_all c.loop-bit.bit-index c.args.bits.now c.loop-bit-test.false) c.loop-bit.invariant.told
