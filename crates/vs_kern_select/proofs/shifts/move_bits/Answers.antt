use Rattle.std.proofs.Common.{◌≡◌, ℕ, ◌+◌, ◌<◌, ◌≤◌, Bool, if◌then◌else◌, List, length, get_or, slice_set, sym, ap, ap₂, ◌∙◌, subst, arith}
use Rattle.std.proofs.lemmas.List.{get_or_default}
use Rattle.vs_four.specs.declared.Bit4.{Bit4}
use Rattle.vs_four.specs.declared.Bit4.TheVariants.{X}
use Rattle.vs_four.specs.Logic.{BitList}
use Rattle.vs_plane.specs.declared.pairs.Pair.{Pair}
use Rattle.vs_plane.specs.Lanes.{pair_lane}
use Rattle.vs_plane.specs.Kernels.{lane_bits, AreDifferent, Fills}
use Rattle.vs_kern_select.specs.Moves.{moved, turns}
use Rattle.vs_kern_select.proofs.ShiftMoves.{length-turns}
use Rattle.vs_kern_select.proofs.ShiftTurns.{turns_differ, turns_below, to_come}
use Rattle.vs_kern_select.proofs.ShiftLaws.{moved_at, length-moved}
use Rattle.vs_kern_select.proofs.shifts.move_bits.Goals as goal

pub loop-turn-preserved : goal.loop-turn-preserved
loop-turn-preserved g c =
    let law = c.filling_law.ensures in
    let lane = g.W.Word.lane in
    let lanes = g.W.Word.LANES in
    let before = c.args.file.now in
    let file = c.loop-turn.file in
    let left = c.args.left in
    let to = c.args.to.now in
    let t = c.loop-turn.turn in
    let d = c.args.distance in
    let order : List ℕ = turns left to in
    let moves : ℕ → Bool = λ i. lane c.args.moves i in
    let fill : ℕ → Bit4 = λ i. pair_lane lane c.args.fill i in
    let was : ℕ → BitList = λ i. lane_bits lane before order i in
    let value : ℕ → BitList = λ i. moved (moves i) (fill i) d (was i) in
    let fills = c.loop-turn.invariant.fills in
    let in_to : t < length to = c.loop-turn-test.true in
    let in_order : t < length order = omega (arith, in_to, length-turns left to) in
    let different : AreDifferent order = turns_differ left to c.requires.different in
    let below : get_or order t 0 < length file = omega (arith, turns_below left (length before) to t c.requires.to in_to, fills.slots) in
    let reads : (k i : ℕ) → t ≤ k → get_or (lane_bits lane file order i) k (fill i) ≡ get_or (was i) k (fill i) = λ k i h.
    to_come lane lanes law value order t before file k i (fill i) different h fills in
    let holds : (i : ℕ) → i < lanes → pair_lane lane c.in_lanes.result i ≡ get_or (value i) t X = λ i h.
    c.in_lanes.ensures i h
    ∙ ap₂ (λ (m n : Bit4). if moves i then m else n)
    (c.bit_at-comes.ensures i h ∙ reads (t + d) i (omega arith))
    (c.bit_at-stays.ensures i h ∙ reads t i (omega arith))
    ∙ moved_at (moves i) (fill i) d (was i) t
    ∙ get_or_default (value i) t (fill i) X (omega (arith, in_order, length-moved (moves i) (fill i) d (was i), law.long before order i)) in
    let stored = c.store.ensures.stored ∙ ap (λ (slot : ℕ). slice_set file slot c.in_lanes.result) c.slot_at-slot.ensures in
    record {
      fills = subst (λ (f : List (Pair _)). Fills lane lanes value order (t + 1) before f) (sym stored)
          (law.grows value order t before file c.in_lanes.result different in_order below fills holds);
      ticked = omega (arith, c.store.ensures.ticked);
    }
