use Rattle.std.proofs.Common.{◌<◌, length, ap, ◌∙◌, arith}
use Rattle.vs_writes.proofs.Writing.{found_write, written_from, state_set, one_written, all_written}
use Rattle.vs_net.specs.Network.{put}
use Rattle.vs_writes.specs.Held.{state_of}
use Rattle.vs_writes.proofs.writes.write_all.Goals as goal

pub bounds-values-bit : goal.bounds-values-bit
bounds-values-bit c =
    let written = written_from c.args.writes.now c.loop-write.write-index c.bit.result (found_write c.args.writes.now c.loop-write.write-index c.bit.result c.write-item.result c.write-item.is c.loop-write-test.true c.bit.ensures) in
    let below : c.bit.result < length c.args.values.now = c.requires c.bit.result written in omega (arith, below, c.loop-write.auto.values)

pub loop-write-preserved : goal.loop-write-preserved
loop-write-preserved c =
    let written = written_from c.args.writes.now c.loop-write.write-index c.bit.result (found_write c.args.writes.now c.loop-write.write-index c.bit.result c.write-item.result c.write-item.is c.loop-write-test.true c.bit.ensures) in
    let below : c.bit.result < length c.args.values.now = c.requires c.bit.result written in
    let inside : c.bit.result < length c.loop-write.values = omega (arith, below, c.loop-write.auto.values) in
    one_written (state_of c.loop-write.values) _ _ c.args.writes.now c.loop-write.write-index c.write-item.result c.write-item.is c.loop-write-test.true
    (state_set c.loop-write.values c.bit.result c.value.result inside ∙ ap (λ b. put (state_of c.loop-write.values) b c.value.result) c.bit.ensures ∙ ap (put (state_of c.loop-write.values) c.write-item.result.bit) c.value.ensures) c.loop-write.invariant

pub returns : goal.returns
returns c = all_written (state_of c.loop-write.values) _ c.args.writes.now c.loop-write.write-index c.loop-write-test.false c.loop-write.invariant
