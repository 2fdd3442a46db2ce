use Rattle.std.proofs.Common.{◌≡◌, ℕ, ◌<◌, Bool, if◌then◌else◌, Option, None, length, get_or, take, sym, ap, ap₂, ◌∙◌, arith}
use Rattle.std.proofs.Math.Seq.{take-length}
use Rattle.vs_four.specs.declared.Bit4.{Bit4}
use Rattle.vs_four.specs.declared.Bit4.TheVariants.{X}
use Rattle.vs_four.specs.Logic.{BitList}
use Rattle.vs_four.specs.Selects.{at_place, places}
use Rattle.vs_plane.specs.Lanes.{pair_lane}
use Rattle.vs_plane.specs.Kernels.{lane_bits}
use Rattle.vs_kern_select.specs.Matches.{is_place}
use Rattle.vs_kern_select.specs.Operators.{part_of}
use Rattle.vs_kern_select.proofs.SelectPlaces.{place_next, select_at}
use Rattle.vs_kern_select.proofs.selects.selected_bit.Goals as goal

pub loop-place-preserved : goal.loop-place-preserved
loop-place-preserved g c = λ i h.
    let law = c.filling_law.ensures in
    let lane = g.W.Word.lane in
    let file = c.args.file.now in
    let n = c.loop-place.place in
    let selection = c.args.selection in
    let a : BitList = lane_bits lane file c.args.a.now i in
    let place : Option ℕ = get_or (places (part_of selection c.args.width) selection.signed (lane_bits lane file c.args.base.now i)) c.args.bit None in
    let in_a : n < length c.args.a.now = c.loop-place-test.true in
    let loaded : pair_lane lane c.load.result i ≡ get_or a n X = c.load.ensures.lanes i ∙ sym (law.bit file c.args.a.now n i in_a) in
    c.in_lanes-pair.ensures i h
    ∙ ap (λ (t : Bool). if t then pair_lane lane c.load.result i else pair_lane lane c.loop-place.pair i) (c.lanes_of_place-lanes.ensures i h)
    ∙ ap₂ (λ (x y : Bit4). if is_place n place then x else y) loaded (c.loop-place.invariant i h)
    ∙ place_next a n place (omega (arith, in_a, law.long file c.args.a.now i))

pub returns : goal.returns
returns g c = λ i h.
    let lane = g.W.Word.lane in
    let file = c.args.file.now in
    let selection = c.args.selection in
    let a : BitList = lane_bits lane file c.args.a.now i in
    let base : BitList = lane_bits lane file c.args.base.now i in
    let place : Option ℕ = get_or (places (part_of selection c.args.width) selection.signed base) c.args.bit None in
    let all : c.loop-place.place ≡ length a = omega (arith, c.filling_law.ensures.long file c.args.a.now i) in
    c.loop-place.invariant i h
    ∙ ap (λ (n : ℕ). at_place X (take n a) place) all
    ∙ ap (λ (v : BitList). at_place X v place) (take-length a)
    ∙ select_at (part_of selection c.args.width) selection.signed base a c.args.bit c.requires.bit
