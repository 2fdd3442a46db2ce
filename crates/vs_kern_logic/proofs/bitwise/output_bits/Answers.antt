use Rattle.std.proofs.Common.{◌≡◌, ℕ, ◌+◌, ◌<◌, List, [], ◌∷◌, map, length, sym, ap, ◌∙◌, subst, arith, get_or}
use Rattle.std.proofs.lemmas.List.{get_or-map, length-map}
use Rattle.vs_four.specs.declared.Bit4.TheVariants.{X}
use Rattle.vs_four.specs.Logic.{BitList}
use Rattle.vs_plane.specs.declared.pairs.Pair.{Pair}
use Rattle.vs_plane.specs.Lanes.{pair_lane}
use Rattle.vs_plane.specs.Kernels.{lane_bits, Fills, unary}
use Rattle.vs_kern_logic.specs.Gates.{output_bit}
use Rattle.vs_kern_logic.proofs.bitwise.output_bits.Goals as goal

pub loop-k-preserved : goal.loop-k-preserved
loop-k-preserved g c =
    let law = c.filling_law.ensures in
    let lane = g.W.Word.lane in
    let before = c.args.file.now in
    let file = c.loop-k.file in
    let to = c.args.to.now in
    let k = c.loop-k.k in
    let value : ℕ → BitList = λ i. map (output_bit c.args.inverted) (lane_bits lane before c.args.a.now i) in
    let fills = c.loop-k.invariant.fills in
    let in_to : k < length to = c.loop-k-test.true in
    let in_a : k < length c.args.a.now = omega arith in
    let holds : (i : ℕ) → i < g.W.Word.LANES → pair_lane lane c.output-pair.result i ≡ get_or (value i) k X = λ i h.
    c.output-pair.ensures i h
    ∙ ap (output_bit c.args.inverted) (c.load.ensures.lanes i ∙ law.reads value to k before file c.args.a.now k i c.requires.a.to_apart (omega arith) in_a fills)
    ∙ sym (get_or-map (output_bit c.args.inverted) (lane_bits lane before c.args.a.now i) k X X (omega (arith, law.long before c.args.a.now i))) in
    record {
      fills = subst (λ (f : List (Pair _)). Fills lane g.W.Word.LANES value to (k + 1) before f) (sym c.store.ensures.stored)
          (law.grows value to k before file c.output-pair.result c.requires.targets.to_differ in_to (omega arith) fills holds);
      ticked = omega (arith, c.store.ensures.ticked);
    }

pub returns-clause-computes : goal.returns-clause-computes
returns-clause-computes g c =
    let law = c.filling_law.ensures in
    let lane = g.W.Word.lane in
    let before = c.args.file.now in
    let f = output_bit c.args.inverted in
    law.ends (unary (map f)) (c.args.a.now ∷ []) c.args.to.now c.args.scratch.now c.loop-k.k before c.loop-k.file
    (λ i h. length-map (lane_bits lane before c.args.a.now i) f ∙ law.long before c.args.a.now i ∙ c.requires.a_length)
    (omega arith) c.loop-k.invariant.fills
