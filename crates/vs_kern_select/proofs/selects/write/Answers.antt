use Rattle.std.proofs.Common.{◌≡◌, ℕ, ◌+◌, ◌<◌, ◌≤◌, List, [], ◌∷◌, length, get_or, sym, ap, ap₂, ◌∙◌, subst, arith}
use Rattle.vs_four.specs.declared.Bit4.TheVariants.{X}
use Rattle.vs_four.specs.Logic.{BitList}
use Rattle.vs_four.specs.Selects.{places}
use Rattle.vs_plane.specs.declared.pairs.Pair.{Pair}
use Rattle.vs_plane.specs.Lanes.{pair_lane}
use Rattle.vs_plane.specs.Kernels.{lane_bits, Fills, ternary}
use Rattle.vs_kern_select.specs.declared.costs.Selection.{Selection}
use Rattle.vs_kern_select.specs.Operators.{part_of, write_of}
use Rattle.vs_kern_select.proofs.SelectPlaces.{length-write}
use Rattle.vs_kern_select.proofs.SelectStill.{still}
use Rattle.vs_kern_select.proofs.selects.write.Goals as goal

pub loop-place-preserved : goal.loop-place-preserved
loop-place-preserved g c =
    let law = c.filling_law.ensures in
    let lane = g.W.Word.lane in
    let lanes = g.W.Word.LANES in
    let before = c.args.file.now in
    let file = c.loop-place.file in
    let to = c.args.to.now in
    let k = c.loop-place.place in
    let selection : Selection = record { range = c.args.range; signed = c.args.signed; up = c.args.up } in
    let a : ℕ → BitList = lane_bits lane before c.args.a.now in
    let base : ℕ → BitList = lane_bits lane before c.args.base.now in
    let bits : ℕ → BitList = lane_bits lane before c.args.value.now in
    let value : ℕ → BitList = λ i. write_of selection (a i) (base i) (bits i) in
    let fills = c.loop-place.invariant.fills in
    let in_to : k < length to = c.loop-place-test.true in
    let within : k ≤ length to = omega arith in
    let holds : (i : ℕ) → i < lanes → pair_lane lane c.written_bit-pair.result i ≡ get_or (value i) k X = λ i h.
    c.written_bit-pair.ensures i h
    ∙ ap₂ (λ (v w : BitList). get_or (write_of selection v w (lane_bits lane file c.args.value.now i)) k X)
    (still lane lanes law value to k before file c.args.a.now i c.requires.a.to_apart within fills)
    (still lane lanes law value to k before file c.args.base.now i c.requires.base.to_apart within fills)
    ∙ ap (λ (v : BitList). get_or (write_of selection (a i) (base i) v) k X)
    (still lane lanes law value to k before file c.args.value.now i c.requires.value.to_apart within fills) in
    record {
      fills = subst (λ (f : List (Pair _)). Fills lane lanes value to (k + 1) before f) (sym c.store.ensures.stored)
          (law.grows value to k before file c.written_bit-pair.result c.requires.targets.to_differ in_to (omega arith) fills holds);
      ticked = omega (arith, c.store.ensures.ticked);
    }

pub returns-clause-computes : goal.returns-clause-computes
returns-clause-computes g c =
    let law = c.filling_law.ensures in
    let lane = g.W.Word.lane in
    let before = c.args.file.now in
    let to = c.args.to.now in
    let selection : Selection = record { range = c.args.range; signed = c.args.signed; up = c.args.up } in
    let bits : ℕ → BitList = lane_bits lane before c.args.value.now in
    law.ends (ternary (write_of selection)) (c.args.a.now ∷ c.args.base.now ∷ c.args.value.now ∷ []) to c.args.scratch.now c.loop-place.place before c.loop-place.file
    (λ i h. length-write (lane_bits lane before c.args.a.now i) (places (part_of selection (length (bits i))) c.args.signed (lane_bits lane before c.args.base.now i)) (bits i)
    ∙ law.long before c.args.a.now i ∙ c.requires.a_length)
    (omega arith)
    c.loop-place.invariant.fills
