use Rattle.std.proofs.Common.{◌≡◌, ℕ, ◌+◌, ◌<◌, List, length, get_or, sym, ap, ◌∙◌, subst, arith}
use Rattle.std.proofs.lemmas.List.{get_or-map}
use Rattle.vs_four.specs.declared.Bit4.{Bit4}
use Rattle.vs_four.specs.declared.Bit4.TheVariants.{X}
use Rattle.vs_four.specs.Logic.{BitList}
use Rattle.vs_plane.specs.declared.pairs.Pair.{Pair}
use Rattle.vs_plane.specs.Lanes.{pair_lane}
use Rattle.vs_plane.specs.Kernels.{lane_bits, Fills}
use Rattle.vs_kern_select.specs.Moves.{first, first_bit}
use Rattle.vs_kern_select.proofs.shifts.first_bits.Goals as goal

pub loop-k-preserved : goal.loop-k-preserved
loop-k-preserved g c =
    let law = c.filling_law.ensures in
    let lane = g.W.Word.lane in
    let before = c.args.file.now in
    let file = c.loop-k.file in
    let to = c.args.to.now in
    let k = c.loop-k.k in
    let bit : ℕ → Bit4 → Bit4 = λ i b. first_bit (lane c.args.unknown i) (lane c.args.out i) (pair_lane lane c.args.fill i) b in
    let a : ℕ → BitList = λ i. lane_bits lane before c.args.a.now i in
    let value : ℕ → BitList = λ i. first (lane c.args.unknown i) (lane c.args.out i) (pair_lane lane c.args.fill i) (a i) in
    let fills = c.loop-k.invariant.fills in
    let in_to : k < length to = c.loop-k-test.true in
    let in_a : k < length c.args.a.now = omega arith in
    let holds : (i : ℕ) → i < g.W.Word.LANES → pair_lane lane c.first_pair-pair.result i ≡ get_or (value i) k X = λ i h.
    c.first_pair-pair.ensures i h
    ∙ ap (λ (b : Bit4). bit i b) (c.load.ensures.lanes i ∙ law.reads value to k before file c.args.a.now k i c.requires.apart (omega arith) in_a fills)
    ∙ sym (get_or-map (bit i) (a i) k X X (omega (arith, in_a, law.long before c.args.a.now i))) in
    record {
      fills = subst (λ (f : List (Pair _)). Fills lane g.W.Word.LANES value to (k + 1) before f) (sym c.store.ensures.stored)
          (law.grows value to k before file c.first_pair-pair.result c.requires.different in_to (omega arith) fills holds);
      ticked = omega (arith, c.store.ensures.ticked);
    }
