use Rattle.std.proofs.Common.{ℕ, ◌+◌, ◌/◌, ◌%◌, Bool, ◌&&◌, not, ◌==◌, List, get_or, drop, sym, ap, ◌∙◌}
use mathlib.Core.Bool.{beq}
use Rattle.std.proofs.lemmas.List.{at_drop_more, at_drop_all}
use Rattle.vs_four.specs.declared.Bit4.{Bit4}
use Rattle.vs_plane.specs.Lanes.{slot_lane}
use Rattle.vs_plane.specs.Kernels.{lane_bits}
use Rattle.vs_kern_select.specs.Matches.{has_digit, is_natural}
use Rattle.vs_kern_select.proofs.SelectNumbers.{and_again, and_is, and_isnt, differ_is, natural_next}
use Rattle.vs_kern_select.proofs.selects.lanes_of_natural.Goals as goal

pub loop-slot-preserved : goal.loop-slot-preserved
loop-slot-preserved g c = λ i h.
    let lane = g.W.Word.lane in
    let file = c.args.file.now in
    let n = c.loop-slot.slot-index in
    let inverted = c.args.inverted in
    let left = c.loop-slot.left in
    let one : Bool = not (beq (left % 2 == 1) inverted) in
    let so_far : Bool = lane c.loop-slot.lanes i in
    let bit : Bit4 = slot_lane lane file (get_or c.args.base.now n 0) i in
    let rest : Bool = is_natural inverted (lane_bits lane file (drop (n + 1) c.args.base.now) i) (left / 2) in
    ap (λ (v : Bool). v && rest) (c.and-lanes.ensures i h ∙ ap (λ (v : Bool). so_far && v) (c.lanes_of_digit.ensures i h ∙ ap (has_digit one) (c.load.ensures.lanes i)))
    ∙ and_again so_far (has_digit one bit) rest
    ∙ ap (λ (v : Bool). so_far && v) (natural_next inverted one bit (lane_bits lane file (drop (n + 1) c.args.base.now) i) left (differ_is (left % 2 == 1) inverted))
    ∙ sym (at_drop_more (λ (xs : List ℕ). so_far && is_natural inverted (lane_bits lane file xs i) left) c.args.base.now n 0 c.loop-slot-test.true)
    ∙ c.loop-slot.invariant i h

pub returns-then-left-eq0 : goal.returns-then-left-eq0
returns-then-left-eq0 g c = λ i h.
    let lane = g.W.Word.lane in
    let inverted = c.args.inverted in
    let left = c.loop-slot.left in
    let so_far : Bool = lane c.loop-slot.lanes i in
    and_is so_far inverted left c.if-left-eq0.true
    ∙ sym (at_drop_all (λ (xs : List ℕ). so_far && is_natural inverted (lane_bits lane c.args.file.now xs i) left) c.args.base.now c.loop-slot.slot-index c.loop-slot-test.false)
    ∙ c.loop-slot.invariant i h

pub returns-else-left-eq0 : goal.returns-else-left-eq0
returns-else-left-eq0 g c = λ i h.
    let lane = g.W.Word.lane in
    let inverted = c.args.inverted in
    let left = c.loop-slot.left in
    let so_far : Bool = lane c.loop-slot.lanes i in
    c.none.ensures i h
    ∙ and_isnt so_far inverted left c.if-left-eq0.false
    ∙ sym (at_drop_all (λ (xs : List ℕ). so_far && is_natural inverted (lane_bits lane c.args.file.now xs i) left) c.args.base.now c.loop-slot.slot-index c.loop-slot-test.false)
    ∙ c.loop-slot.invariant i h
