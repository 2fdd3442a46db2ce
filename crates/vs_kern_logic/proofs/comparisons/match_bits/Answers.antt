use Rattle.std.proofs.Common.{◌<◌, length, get_or, ap, ◌∙◌, arith}
use Rattle.vs_four.specs.Tables.{and_bit}
use Rattle.vs_plane.specs.Lanes.{pair_lane, slot_lane}
use Rattle.vs_kern_logic.specs.Gates.{gate_bit}
use Rattle.vs_kern_logic.proofs.Folds.{rest_of_two, fold_two_more, fold_two_all}
use Rattle.vs_kern_logic.proofs.comparisons.match_bits.Goals as goal

pub loop-k-init : goal.loop-k-init
loop-k-init g c = λ i h.
    ap (λ b. rest_of_two g.W.Word.lane c.args.file.now i (gate_bit c.args.gate) b c.args.a.now c.args.b.now) (c.of_bit-pair.ensures i h)

pub loop-k-preserved : goal.loop-k-preserved
loop-k-preserved g c = λ i h.
    let lane = g.W.Word.lane in
    let k = c.loop-k.k in
    let in_a : k < length c.args.a.now = c.loop-k-test.true in
    fold_two_more lane c.args.file.now i (gate_bit c.args.gate) (pair_lane lane c.loop-k.pair i) (pair_lane lane c.and-pair.result i) c.args.a.now c.args.b.now k
    in_a
    (omega (arith, c.requires.lengths))
    (c.and-pair.ensures i h
    ∙ ap (λ b. and_bit (pair_lane lane c.loop-k.pair i) b) (c.apply-matched.ensures i h
    ∙ ap (λ x. gate_bit c.args.gate x (pair_lane lane c.load-in-loop-k.result i)) (c.load.ensures.lanes i)
    ∙ ap (λ y. gate_bit c.args.gate (slot_lane lane c.args.file.now (get_or c.args.a.now k 0) i) y) (c.load-in-loop-k.ensures.lanes i)))
    ∙ c.loop-k.invariant i h

pub returns : goal.returns
returns g c = λ i h.
    fold_two_all g.W.Word.lane c.args.file.now i (gate_bit c.args.gate) (pair_lane g.W.Word.lane c.loop-k.pair i) c.args.a.now c.args.b.now c.loop-k.k c.loop-k-test.false
    ∙ c.loop-k.invariant i h
