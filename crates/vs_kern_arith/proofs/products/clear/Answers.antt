use Rattle.std.proofs.Common.{◌≡◌, ℕ, ◌+◌, ◌<◌, Bool, if◌then◌else◌, List, length, get_or, replicate, sym, ap, ◌∙◌, subst, arith}
use Rattle.std.proofs.lemmas.List.{get_or-replicate}
use Rattle.vs_four.specs.declared.Bit4.{Bit4}
use Rattle.vs_four.specs.declared.Bit4.TheVariants.{X, Zero}
use Rattle.vs_four.specs.Tables.{of_bool}
use Rattle.vs_four.specs.Logic.{BitList}
use Rattle.vs_plane.specs.declared.pairs.Pair.{Pair}
use Rattle.vs_plane.specs.Lanes.{pair_lane}
use Rattle.vs_plane.specs.Kernels.{Fills}
use Rattle.vs_kern_arith.proofs.products.clear.Goals as goal

pub loop-slot-init : goal.loop-slot-init
loop-slot-init g c = record {
  fills = c.filling_law.ensures.begins _ c.args.to.now c.args.file.now;
  ticked = omega arith;
}

pub loop-slot-preserved : goal.loop-slot-preserved
loop-slot-preserved g c =
    let lane = g.W.Word.lane in
    let lanes = g.W.Word.LANES in
    let to = c.args.to.now in
    let k = c.loop-slot.slot-index in
    let bit : ℕ → Bit4 = λ i. if lane c.args.unknown i then X else Zero in
    let value : ℕ → BitList = λ i. replicate (length to) (bit i) in
    let in_to : k < length to = omega arith in
    let holds : (i : ℕ) → i < lanes → pair_lane lane c.known_bits-pair.result i ≡ get_or (value i) k X = λ i h.
    c.known_bits-pair.ensures i h
    ∙ ap (λ (b : Bool). if lane c.args.unknown i then X else of_bool b) (c.none.ensures i h)
    ∙ sym (get_or-replicate (length to) k (bit i) X in_to) in
    record {
      fills = subst (λ (f : List (Pair _)). Fills lane lanes value to (k + 1) c.args.file.now f) (sym c.store.ensures.stored)
          (c.filling_law.ensures.grows value to k c.args.file.now c.loop-slot.file c.known_bits-pair.result c.requires.targets.to_differ in_to (omega arith) c.loop-slot.invariant.fills holds);
      ticked = omega (arith, c.store.ensures.ticked);
    }
