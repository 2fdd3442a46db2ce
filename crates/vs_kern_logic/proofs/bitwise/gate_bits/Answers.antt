use Rattle.std.proofs.Common.{◌≡◌, ℕ, ◌+◌, ◌<◌, List, [], ◌∷◌, length, get_or, sym, ap, ◌∙◌, subst, arith}
use Rattle.vs_four.specs.declared.Bit4.TheVariants.{X}
use Rattle.vs_four.specs.Logic.{BitList, map2}
use Rattle.vs_plane.specs.declared.pairs.Pair.{Pair}
use Rattle.vs_plane.specs.Lanes.{pair_lane}
use Rattle.vs_plane.specs.Kernels.{lane_bits, Fills, binary}
use Rattle.vs_kern_logic.specs.Gates.{gate_bit}
use Rattle.vs_kern_logic.proofs.bitwise.gate_bits.Goals as goal

pub loop-k-preserved : goal.loop-k-preserved
loop-k-preserved g c =
    let law = c.filling_law.ensures in
    let lane = g.W.Word.lane in
    let before = c.args.file.now in
    let file = c.loop-k.file in
    let to = c.args.to.now in
    let k = c.loop-k.k in
    let value : ℕ → BitList = λ i. map2 (gate_bit c.args.gate) (lane_bits lane before c.args.a.now i) (lane_bits lane before c.args.b.now i) in
    let fills = c.loop-k.invariant.fills in
    let in_to : k < length to = c.loop-k-test.true in
    let in_a : k < length c.args.a.now = omega arith in
    let in_b : k < length c.args.b.now = omega arith in
    let holds : (i : ℕ) → i < g.W.Word.LANES → pair_lane lane c.apply-pair.result i ≡ get_or (value i) k X = λ i h.
    c.apply-pair.ensures i h
    ∙ ap (λ x. gate_bit c.args.gate x (pair_lane lane c.load-in-loop-k.result i)) (c.load.ensures.lanes i ∙ law.reads value to k before file c.args.a.now k i c.requires.a.to_apart (omega arith) in_a fills)
    ∙ ap (λ y. gate_bit c.args.gate (get_or (lane_bits lane before c.args.a.now i) k X) y) (c.load-in-loop-k.ensures.lanes i ∙ law.reads value to k before file c.args.b.now k i c.requires.b.to_apart (omega arith) in_b fills)
    ∙ sym (law.pair_at (gate_bit c.args.gate) (lane_bits lane before c.args.a.now i) (lane_bits lane before c.args.b.now i) k (omega (arith, law.long before c.args.a.now i)) (omega (arith, law.long before c.args.b.now i))) in
    record {
      fills = subst (λ (f : List (Pair _)). Fills lane g.W.Word.LANES value to (k + 1) before f) (sym c.store.ensures.stored)
          (law.grows value to k before file c.apply-pair.result c.requires.targets.to_differ in_to (omega arith) fills holds);
      ticked = omega (arith, c.store.ensures.ticked);
    }

pub returns-clause-computes : goal.returns-clause-computes
returns-clause-computes g c =
    let law = c.filling_law.ensures in
    let lane = g.W.Word.lane in
    let before = c.args.file.now in
    let f = gate_bit c.args.gate in
    law.ends (binary (map2 f)) (c.args.a.now ∷ c.args.b.now ∷ []) c.args.to.now c.args.scratch.now c.loop-k.k before c.loop-k.file
    (λ i h. law.pair_long f (lane_bits lane before c.args.a.now i) (lane_bits lane before c.args.b.now i)
    (omega (arith, law.long before c.args.a.now i, law.long before c.args.b.now i))
    ∙ law.long before c.args.a.now i ∙ c.requires.a_length)
    (omega arith) c.loop-k.invariant.fills
