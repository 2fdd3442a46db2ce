use Rattle.std.proofs.Common.{◌≡◌, ℕ, ◌+◌, ◌<◌, ◌≤◌, List, [], ◌∷◌, length, get_or, sym, ap₂, ◌∙◌, subst, arith}
use Rattle.vs_four.specs.declared.Bit4.TheVariants.{X}
use Rattle.vs_four.specs.Logic.{BitList}
use Rattle.vs_plane.specs.declared.pairs.Pair.{Pair}
use Rattle.vs_plane.specs.Lanes.{pair_lane}
use Rattle.vs_plane.specs.Kernels.{lane_bits, Fills, binary}
use Rattle.vs_kern_select.specs.declared.costs.Selection.{Selection}
use Rattle.vs_kern_select.specs.Operators.{part_of, select_of}
use Rattle.vs_kern_select.proofs.SelectPlaces.{length-select}
use Rattle.vs_kern_select.proofs.SelectStill.{still}
use Rattle.vs_kern_select.proofs.selects.select.Goals as goal

pub loop-bit-preserved : goal.loop-bit-preserved
loop-bit-preserved g c =
    let law = c.filling_law.ensures in
    let lane = g.W.Word.lane in
    let lanes = g.W.Word.LANES in
    let before = c.args.file.now in
    let file = c.loop-bit.file in
    let to = c.args.to.now in
    let k = c.loop-bit.bit in
    let selection : Selection = record { range = c.args.range; signed = c.args.signed; up = c.args.up } in
    let a : ℕ → BitList = lane_bits lane before c.args.a.now in
    let base : ℕ → BitList = lane_bits lane before c.args.base.now in
    let value : ℕ → BitList = λ i. select_of selection (length to) (a i) (base i) in
    let fills = c.loop-bit.invariant.fills in
    let in_to : k < length to = c.loop-bit-test.true in
    let within : k ≤ length to = omega arith in
    let holds : (i : ℕ) → i < lanes → pair_lane lane c.selected_bit-pair.result i ≡ get_or (value i) k X = λ i h.
    c.selected_bit-pair.ensures i h
    ∙ ap₂ (λ (v w : BitList). get_or (select_of selection (length to) v w) k X)
    (still lane lanes law value to k before file c.args.a.now i c.requires.a.to_apart within fills)
    (still lane lanes law value to k before file c.args.base.now i c.requires.base.to_apart within fills) in
    record {
      fills = subst (λ (f : List (Pair _)). Fills lane lanes value to (k + 1) before f) (sym c.store.ensures.stored)
          (law.grows value to k before file c.selected_bit-pair.result c.requires.targets.to_differ in_to (omega arith) fills holds);
      ticked = omega (arith, c.store.ensures.ticked);
    }

pub returns-clause-computes : goal.returns-clause-computes
returns-clause-computes g c =
    let lane = g.W.Word.lane in
    let before = c.args.file.now in
    let to = c.args.to.now in
    let selection : Selection = record { range = c.args.range; signed = c.args.signed; up = c.args.up } in
    c.filling_law.ensures.ends (binary (select_of selection (length to))) (c.args.a.now ∷ c.args.base.now ∷ []) to c.args.scratch.now c.loop-bit.bit before c.loop-bit.file
    (λ i h. length-select (part_of selection (length to)) c.args.signed (lane_bits lane before c.args.base.now i) (lane_bits lane before c.args.a.now i))
    (omega arith)
    c.loop-bit.invariant.fills
