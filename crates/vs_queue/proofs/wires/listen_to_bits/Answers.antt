use Rattle.std.proofs.Common.{get_or, refl}
use Rattle.vs_queue.specs.Listens.{to_bit}
use Rattle.vs_queue.proofs.Listened.{number_got, bit_there, told_more, told_all}
use Rattle.vs_queue.proofs.wires.listen_to_bits.Goals as goal

pub loop-bit-init : goal.loop-bit-init
loop-bit-init c = record { told = refl; there = c.requires }

pub listen-requires : goal.listen-requires
listen-requires c =
    bit_there (to_bit c.args.p) c.args.bits.now c.args.wiring.now c.loop-bit.wiring c.loop-bit.bit-index (get_or c.args.bits.now c.loop-bit.bit-index 0) (number_got c.args.bits.now c.loop-bit.bit-index c.loop-bit-test.true) c.loop-bit-test.true c.loop-bit.invariant

pub loop-bit-preserved : goal.loop-bit-preserved
loop-bit-preserved c =
    told_more (to_bit c.args.p) c.args.bits.now c.args.wiring.now c.loop-bit.wiring c.loop-bit.bit-index (get_or c.args.bits.now c.loop-bit.bit-index 0) (number_got c.args.bits.now c.loop-bit.bit-index c.loop-bit-test.true) c.loop-bit-test.true c.loop-bit.invariant c.listen.new.self c.in_ok-listen.ensures

pub returns : goal.returns
returns c = told_all (to_bit c.args.p) c.args.bits.now c.args.wiring.now c.loop-bit.wiring c.loop-bit.bit-index c.loop-bit-test.false c.loop-bit.invariant
