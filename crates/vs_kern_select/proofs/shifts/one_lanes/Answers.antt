use Rattle.std.proofs.Common.{◌≡◌, ℕ, ◌+◌, ◌||◌, Bool, true, false, List, get_or, drop, refl, sym, ap, ◌∙◌}
use Rattle.std.proofs.lemmas.List.{at_drop_more, at_drop_all}
use Rattle.std.specs.List.{list_any}
use Rattle.vs_four.specs.Tables.{is_one}
use Rattle.vs_plane.specs.Lanes.{slot_lane}
use Rattle.vs_plane.specs.Kernels.{lane_bits}
use Rattle.vs_kern_select.proofs.shifts.one_lanes.Goals as goal

one_more : (u p q : Bool) → ((u || p) || q) ≡ (u || (p || q))
one_more true p q = refl
one_more false p q = refl

or_false : (u : Bool) → u ≡ (u || false)
or_false true = refl
or_false false = refl

pub loop-slot-init : goal.loop-slot-init
loop-slot-init g c = λ i h. ap (λ (v : Bool). v || list_any is_one (lane_bits g.W.Word.lane c.args.file.now c.args.a.now i)) (c.none-ones.ensures i h)

pub loop-slot-preserved : goal.loop-slot-preserved
loop-slot-preserved g c = λ i h.
    let lane = g.W.Word.lane in
    let file = c.args.file.now in
    let n = c.loop-slot.slot-index in
    let u : Bool = lane c.loop-slot.ones i in
    let rest : Bool = list_any is_one (lane_bits lane file (drop (n + 1) c.args.a.now) i) in
    let slot : ℕ = get_or c.args.a.now n 0 in
    ap (λ (v : Bool). v || rest) (c.or-ones.ensures i h ∙ ap (λ (v : Bool). u || v) (c.one.ensures.lanes i h ∙ ap is_one (c.load.ensures.lanes i)))
    ∙ one_more u (is_one (slot_lane lane file slot i)) rest
    ∙ sym (at_drop_more (λ (xs : List ℕ). u || list_any is_one (lane_bits lane file xs i)) c.args.a.now n 0 c.loop-slot-test.true)
    ∙ c.loop-slot.invariant i h

pub returns : goal.returns
returns g c = λ i h.
    let lane = g.W.Word.lane in
    let u : Bool = lane c.loop-slot.ones i in
    or_false u
    ∙ sym (at_drop_all (λ (xs : List ℕ). u || list_any is_one (lane_bits lane c.args.file.now xs i)) c.args.a.now c.loop-slot.slot-index c.loop-slot-test.false)
    ∙ c.loop-slot.invariant i h
