use Rattle.std.proofs.Common.{◌≡◌, ℕ, ◌+◌, ◌<◌, List, length, get_or, replicate, sym, ◌∙◌, subst, arith}
use Rattle.std.proofs.lemmas.List.{get_or-replicate}
use Rattle.vs_four.specs.declared.Bit4.TheVariants.{X}
use Rattle.vs_four.specs.Logic.{BitList}
use Rattle.vs_plane.specs.declared.pairs.Pair.{Pair}
use Rattle.vs_plane.specs.Lanes.{pair_lane}
use Rattle.vs_plane.specs.Kernels.{Fills}
use Rattle.vs_kern_select.proofs.words.unknown_word.Goals as goal

pub loop-slot-preserved : goal.loop-slot-preserved
loop-slot-preserved g c =
    let lane = g.W.Word.lane in
    let lanes = g.W.Word.LANES in
    let to = c.args.to.now in
    let k = c.loop-slot.slot-index in
    let value : ℕ → BitList = λ i. replicate (length to) X in
    let in_to : k < length to = omega arith in
    let holds : (i : ℕ) → i < lanes → pair_lane lane c.of_bit-pair.result i ≡ get_or (value i) k X = λ i h.
    c.of_bit-pair.ensures i h ∙ sym (get_or-replicate (length to) k X X in_to) in
    record {
      fills = subst (λ (f : List (Pair _)). Fills lane lanes value to (k + 1) c.args.file.now f) (sym c.store.ensures.stored)
          (c.filling_law.ensures.grows value to k c.args.file.now c.loop-slot.file c.of_bit-pair.result c.requires.different in_to (omega arith) c.loop-slot.invariant.fills holds);
      ticked = omega (arith, c.store.ensures.ticked);
    }
