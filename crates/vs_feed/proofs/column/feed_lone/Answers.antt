use Rattle.std.proofs.Common.{ℕ, length, ap₂, ◌∙◌, ◌==◌, arith}
use Rattle.std.proofs.lemmas.Nat.Bits.{shr_and_one}
use Rattle.vs_plane.specs.Lanes.{decode}
use Rattle.vs_feed.proofs.Packs.{none_lone, lone_more, lone_all}
use Rattle.vs_feed.proofs.column.feed_lone.Goals as goal

pub planes_of-value-requires : goal.planes_of-value-requires
planes_of-value-requires g c = λ h. c.requires.input.input 0 h

pub loop-n-init : goal.loop-n-init
loop-n-init g c = none_lone g.W.Word.lane g.W.Word.LANES c.planes_of-value.result.0 c.planes_of-value.result.1 c.args.pairs.now

pub loop-n-preserved : goal.loop-n-preserved
loop-n-preserved g c =
    lone_more g.W.Word.lane g.W.Word.LANES c.loop-n.n c.planes_of-value.result.0 c.planes_of-value.result.1 c.loop-n.pairs c.lone_pair.result (omega arith)
    (c.lone_pair.ensures.first ∙ ap₂ (λ (v u : ℕ). decode (v == 1) (u == 1)) (shr_and_one c.planes_of-value.result.0 c.loop-n.n) (shr_and_one c.planes_of-value.result.1 c.loop-n.n))
    c.lone_pair.ensures.others
    c.loop-n.invariant

pub returns-clause-packed : goal.returns-clause-packed
returns-clause-packed g c = λ i h.
    lone_all g.W.Word.lane g.W.Word.LANES (length c.args.pairs.now) c.planes_of-value.result.0 c.planes_of-value.result.1 c.loop-n.pairs c.args.stimuli.now c.args.input i
    c.loop-n.auto.pairs c.requires.lone h c.requires.input c.requires.most
    (c.planes_of-value.ensures (length c.args.pairs.now) c.requires.input c.requires.most)
    (λ j m l k. c.loop-n.invariant.each j m l (omega (arith, k, c.loop-n-test.false)))
