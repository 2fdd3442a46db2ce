use Rattle.std.proofs.Common.{◌≡◌, ℕ, ◌+◌, ◌<◌, List, length, get_or, sym, ap₂, ◌∙◌, subst, arith}
use Rattle.vs_four.specs.declared.Bit4.{Bit4}
use Rattle.vs_four.specs.declared.Bit4.TheVariants.{X}
use Rattle.vs_four.specs.Logic.{BitList, map2}
use Rattle.vs_plane.specs.declared.pairs.Pair.{Pair}
use Rattle.vs_plane.specs.Lanes.{pair_lane}
use Rattle.vs_plane.specs.Kernels.{lane_bits, Fills}
use Rattle.vs_kern_select.specs.Matches.{chosen_bit}
use Rattle.vs_kern_select.proofs.choices.choose_bits.Goals as goal

pub loop-k-preserved : goal.loop-k-preserved
loop-k-preserved g c =
    let law = c.filling_law.ensures in
    let lane = g.W.Word.lane in
    let lanes = g.W.Word.LANES in
    let before = c.args.file.now in
    let file = c.loop-k.file in
    let to = c.args.to.now in
    let k = c.loop-k.k in
    let bit : ℕ → Bit4 → Bit4 → Bit4 = λ i. chosen_bit (lane c.args.first i) (lane c.args.second i) in
    let p : ℕ → BitList = λ i. lane_bits lane before c.args.p.now i in
    let q : ℕ → BitList = λ i. lane_bits lane before c.args.q.now i in
    let value : ℕ → BitList = λ i. map2 (bit i) (p i) (q i) in
    let fills = c.loop-k.invariant.fills in
    let in_to : k < length to = c.loop-k-test.true in
    let in_p : k < length c.args.p.now = omega arith in
    let in_q : k < length c.args.q.now = omega arith in
    let holds : (i : ℕ) → i < lanes → pair_lane lane c.chosen-pair.result i ≡ get_or (value i) k X = λ i h.
    c.chosen-pair.ensures i h
    ∙ ap₂ (λ (x y : Bit4). bit i x y)
    (c.load.ensures.lanes i ∙ law.reads value to k before file c.args.p.now k i c.requires.p.to_apart (omega arith) in_p fills)
    (c.load-in-loop-k.ensures.lanes i ∙ law.reads value to k before file c.args.q.now k i c.requires.q.to_apart (omega arith) in_q fills)
    ∙ sym (law.pair_at (bit i) (p i) (q i) k (omega (arith, law.long before c.args.p.now i)) (omega (arith, law.long before c.args.q.now i))) in
    record {
      fills = subst (λ (f : List (Pair _)). Fills lane lanes value to (k + 1) before f) (sym c.store.ensures.stored)
          (law.grows value to k before file c.chosen-pair.result c.requires.targets.to_differ in_to (omega arith) fills holds);
      ticked = omega (arith, c.store.ensures.ticked);
    }

pub returns-clause-fills : goal.returns-clause-fills
returns-clause-fills g c =
    let lane = g.W.Word.lane in
    let all : c.loop-k.k ≡ length c.args.to.now = omega arith in
    subst (λ (n : ℕ). Fills lane g.W.Word.LANES (λ i. map2 (chosen_bit (lane c.args.first i) (lane c.args.second i)) (lane_bits lane c.args.file.now c.args.p.now i) (lane_bits lane c.args.file.now c.args.q.now i)) c.args.to.now n c.args.file.now c.loop-k.file) all c.loop-k.invariant.fills
