use Rattle.std.proofs.Common.{◌+◌, ◌<◌, length, ◌∙◌, arith}
use Rattle.vs_writes.specs.Held.{state_of}
use Rattle.vs_interpret.proofs.WordSteps.{put_step, put_done, get_at}
use Rattle.vs_interpret.proofs.words.put_bits.Goals as goal

pub loop-k-preserved : goal.loop-k-preserved
loop-k-preserved c =
    let inside : c.args.first + c.loop-k.k < length c.loop-k.values = omega (arith, c.loop-k.auto.values, c.requires, c.len-k-end.ensures.length, c.loop-k-test.true) in
    let there : c.loop-k.k < length c.args.value = omega (arith, c.len-k-end.ensures.length, c.loop-k-test.true) in
    put_step c.loop-k.values c.args.first c.loop-k.k c.args.value c.get.result there inside (get_at c.args.value c.loop-k.k c.get.result c.get.ensures) ∙ c.loop-k.invariant

pub returns : goal.returns
returns c = put_done (state_of c.loop-k.values) _ c.args.first c.loop-k.k c.args.value (omega (arith, c.len-k-end.ensures.length, c.loop-k-test.false)) c.loop-k.invariant
