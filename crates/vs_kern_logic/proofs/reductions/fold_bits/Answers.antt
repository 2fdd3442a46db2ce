use Rattle.std.proofs.Common.{ap, ◌∙◌}
use Rattle.vs_plane.specs.Lanes.{pair_lane}
use Rattle.vs_kern_logic.specs.Gates.{fold_bit}
use Rattle.vs_kern_logic.proofs.Folds.{rest, fold_more, fold_all}
use Rattle.vs_kern_logic.proofs.reductions.fold_bits.Goals as goal

pub loop-slot-init : goal.loop-slot-init
loop-slot-init g c = λ i h.
    ap (λ b. rest g.W.Word.lane c.args.file.now i (fold_bit c.args.fold) b c.args.a.now) (c.of_bit-pair.ensures i h ∙ c.first.ensures)

pub loop-slot-preserved : goal.loop-slot-preserved
loop-slot-preserved g c = λ i h.
    let lane = g.W.Word.lane in
    fold_more lane c.args.file.now i (fold_bit c.args.fold) (pair_lane lane c.loop-slot.pair i) (pair_lane lane c.apply-pair.result i) c.args.a.now c.loop-slot.slot-index
    c.loop-slot-test.true
    (c.apply-pair.ensures i h ∙ ap (λ b. fold_bit c.args.fold (pair_lane lane c.loop-slot.pair i) b) (c.load.ensures.lanes i))
    ∙ c.loop-slot.invariant i h

pub returns : goal.returns
returns g c = λ i h.
    fold_all g.W.Word.lane c.args.file.now i (fold_bit c.args.fold) (pair_lane g.W.Word.lane c.loop-slot.pair i) c.args.a.now c.loop-slot.slot-index c.loop-slot-test.false
    ∙ c.loop-slot.invariant i h
