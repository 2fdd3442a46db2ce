use Rattle.std.proofs.Common.{◌≡◌, ℕ, ◌+◌, not, ◌||◌, ◌&&◌, Bool, true, false, List, get_or, drop, refl, sym, ap, ◌∙◌}
use Rattle.std.proofs.lemmas.List.{at_drop_more, at_drop_all}
use Rattle.vs_four.specs.declared.Bit4.{Bit4}
use Rattle.vs_four.specs.Tables.{is_known}
use Rattle.vs_four.specs.Logic.{all_known}
use Rattle.vs_plane.specs.Lanes.{decode, slot_lane}
use Rattle.vs_plane.specs.Kernels.{lane_bits}
use Rattle.vs_kern_arith.proofs.words.unknown_lanes.Goals as goal

-- a bit's unknown plane
unknown_is : (v u : Bool) → u ≡ not (is_known (decode v u))
unknown_is true true = refl
unknown_is true false = refl
unknown_is false true = refl
unknown_is false false = refl

one_more : (u p q : Bool) → ((u || not p) || not q) ≡ (u || not (p && q))
one_more true p q = refl
one_more false true q = refl
one_more false false q = refl

or_false : (u : Bool) → u ≡ (u || false)
or_false true = refl
or_false false = refl

pub loop-slot-preserved : goal.loop-slot-preserved
loop-slot-preserved g c = λ i h.
    let lane = g.W.Word.lane in
    let file = c.args.file.now in
    let n = c.loop-slot.slot-index in
    let u : Bool = lane c.loop-slot.unknown i in
    let rest : Bool = all_known (lane_bits lane file (drop (n + 1) c.args.a.now) i) in
    let slot : ℕ = get_or c.args.a.now n 0 in
    ap (λ (v : Bool). v || not rest) (c.or-unknown.ensures i h ∙ ap (λ (v : Bool). u || v) (unknown_is (lane c.load.result.value i) (lane c.load.result.unknown i) ∙ ap (λ (b : Bit4). not (is_known b)) (c.load.ensures.lanes i)))
    ∙ one_more u (is_known (slot_lane lane file slot i)) rest
    ∙ sym (at_drop_more (λ (xs : List ℕ). u || not (all_known (lane_bits lane file xs i))) c.args.a.now n 0 c.loop-slot-test.true)
    ∙ c.loop-slot.invariant i h

pub returns : goal.returns
returns g c = λ i h.
    let lane = g.W.Word.lane in
    let u : Bool = lane c.loop-slot.unknown i in
    or_false u
    ∙ sym (at_drop_all (λ (xs : List ℕ). u || not (all_known (lane_bits lane c.args.file.now xs i))) c.args.a.now c.loop-slot.slot-index c.loop-slot-test.false)
    ∙ c.loop-slot.invariant i h
