use Rattle.std.proofs.Common.{arith}
use Rattle.vs_plane.proofs.AnyBits.{words_more, some_lane, no_lane}
use Rattle.vs_plane.proofs.arrays.WordsLanes.any.Goals as goal

pub loop-k-preserved : goal.loop-k-preserved
loop-k-preserved g c = words_more c.args.self.words c.loop-k.k c.loop-k.bits c.loop-k.invariant

pub returns-clause-none : goal.returns-clause-none
returns-clause-none g c = λ e i l. no_lane c.args.self.words c.loop-k.k c.loop-k.bits c.loop-k.invariant e i (omega (arith, l, c.loop-k-test.false))

pub returns-clause-some : goal.returns-clause-some
returns-clause-some g c = λ e.
    let r = some_lane c.args.self.words c.loop-k.k c.loop-k.bits (omega arith) c.loop-k.invariant e in
    (r.0, omega (arith, r.1, c.loop-k.auto.k-end), r.2)
