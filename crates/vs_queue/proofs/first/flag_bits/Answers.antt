use Rattle.std.proofs.Common.{◌+◌, List, Bool, get_or, refl, sym, subst, arith}
use Rattle.vs_queue.proofs.Flags.{AreFlagged, contains_at, flagged_more, flagged_all}
use Rattle.vs_queue.proofs.first.flag_bits.Goals as goal

pub loop-bit-init : goal.loop-bit-init
loop-bit-init c = record { told = λ b. refl; long = refl }

pub set_flag-requires : goal.set_flag-requires
set_flag-requires c =
    let x = get_or c.args.bits.now c.loop-bit.bit-index 0 in
    let l = c.requires x (contains_at c.args.bits.now c.loop-bit.bit-index x refl c.loop-bit-test.true) in
    let m = c.loop-bit.invariant.long in
    omega (arith, l, m)

pub loop-bit-preserved : goal.loop-bit-preserved
loop-bit-preserved c =
    let x = get_or c.args.bits.now c.loop-bit.bit-index 0 in
    let l = c.requires x (contains_at c.args.bits.now c.loop-bit.bit-index x refl c.loop-bit-test.true) in
    let m = c.loop-bit.invariant.long in
    subst (λ (fs : List Bool). AreFlagged c.args.bits.now c.args.flags.now.items fs (c.loop-bit.bit-index + 1)) (sym c.set_flag.ensures)
    (flagged_more c.args.bits.now c.args.flags.now.items c.loop-bit.flags.items c.loop-bit.bit-index x refl c.loop-bit-test.true (omega (arith, l, m)) c.loop-bit.invariant)

pub returns-clause-count : goal.returns-clause-count
returns-clause-count c = c.loop-bit.invariant.long

pub returns-clause-flags : goal.returns-clause-flags
returns-clause-flags c = flagged_all c.args.bits.now c.args.flags.now.items c.loop-bit.flags.items c.loop-bit.bit-index c.loop-bit-test.false c.loop-bit.invariant
