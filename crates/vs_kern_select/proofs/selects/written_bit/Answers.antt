use Rattle.std.proofs.Common.{◌≡◌, ℕ, ◌+◌, ◌<◌, ◌≤◌, Bool, if◌then◌else◌, Option, None, List, ◌∷◌, length, get_or, drop, sym, ap, ◌∙◌, arith}
use Rattle.std.proofs.lemmas.List.{at_drop_more, at_drop_all}
use Rattle.vs_four.specs.declared.Bit4.{Bit4}
use Rattle.vs_four.specs.declared.Bit4.TheVariants.{X}
use Rattle.vs_four.specs.Logic.{BitList}
use Rattle.vs_four.specs.Selects.{Part, places}
use Rattle.vs_plane.specs.Lanes.{pair_lane}
use Rattle.vs_plane.specs.Kernels.{lane_bits}
use Rattle.vs_kern_select.specs.Matches.{is_place}
use Rattle.vs_kern_select.specs.Operators.{part_of}
use Rattle.vs_kern_select.proofs.SelectPlaces.{length-places, written_at, write_at}
use Rattle.vs_kern_select.proofs.selects.written_bit.Goals as goal

pub loop-bit-init : goal.loop-bit-init
loop-bit-init g c = λ i h.
    let law = c.filling_law.ensures in
    let lane = g.W.Word.lane in
    let file = c.args.file.now in
    let selection = c.args.selection in
    let place = c.args.place in
    let a : BitList = lane_bits lane file c.args.a.now i in
    let value : BitList = lane_bits lane file c.args.value.now i in
    let ps : List (Option ℕ) = places (part_of selection (length value)) selection.signed (lane_bits lane file c.args.base.now i) in
    ap (λ (n : ℕ). written_at place (pair_lane lane c.load-pair.result i) (places (part_of selection n) selection.signed (lane_bits lane file c.args.base.now i)) value) (sym (law.long file c.args.value.now i))
    ∙ ap (λ (b : Bit4). written_at place b ps value) (c.load-pair.ensures.lanes i ∙ sym (law.bit file c.args.a.now place i c.requires.place))
    ∙ sym (write_at ps a value place (omega (arith, c.requires.place, law.long file c.args.a.now i)))

pub loop-bit-preserved : goal.loop-bit-preserved
loop-bit-preserved g c = λ i h.
    let law = c.filling_law.ensures in
    let lane = g.W.Word.lane in
    let file = c.args.file.now in
    let selection = c.args.selection in
    let place = c.args.place in
    let n = c.loop-bit.bit in
    let base : BitList = lane_bits lane file c.args.base.now i in
    let value : BitList = lane_bits lane file c.args.value.now i in
    let part : Part = part_of selection (length c.args.value.now) in
    let ps : List (Option ℕ) = places part selection.signed base in
    let old : Bit4 = pair_lane lane c.loop-bit.pair i in
    let bit : Bit4 = get_or value n X in
    let at : Option ℕ = get_or ps n None in
    let within : n < length c.args.value.now = c.loop-bit-test.true in
    let loaded : pair_lane lane c.load.result i ≡ bit = c.load.ensures.lanes i ∙ sym (law.bit file c.args.value.now n i within) in
    let is : pair_lane lane c.in_lanes-pair.result i ≡ (if is_place place at then bit else old) =
    c.in_lanes-pair.ensures i h
    ∙ ap (λ (t : Bool). if t then pair_lane lane c.load.result i else old) (c.lanes_of_place-lanes.ensures i h)
    ∙ ap (λ (b : Bit4). if is_place place at then b else old) loaded in
    ap (λ (b : Bit4). written_at place b (drop (n + 1) ps) (drop (n + 1) value)) is
    ∙ sym (at_drop_more (λ (vs : BitList). written_at place old (at ∷ drop (n + 1) ps) vs) value n X (omega (arith, within, law.long file c.args.value.now i)))
    ∙ sym (at_drop_more (λ (os : List (Option ℕ)). written_at place old os (drop n value)) ps n None (omega (arith, within, length-places part selection.signed base)))
    ∙ c.loop-bit.invariant i h

pub returns : goal.returns
returns g c = λ i h.
    let lane = g.W.Word.lane in
    let file = c.args.file.now in
    let selection = c.args.selection in
    let n = c.loop-bit.bit in
    let base : BitList = lane_bits lane file c.args.base.now i in
    let value : BitList = lane_bits lane file c.args.value.now i in
    let part : Part = part_of selection (length c.args.value.now) in
    let ps : List (Option ℕ) = places part selection.signed base in
    let long : length ps ≡ length c.args.value.now = length-places part selection.signed base in
    let all : length ps ≤ n = omega arith in
    sym (at_drop_all (λ (os : List (Option ℕ)). written_at c.args.place (pair_lane lane c.loop-bit.pair i) os (drop n value)) ps n all)
    ∙ c.loop-bit.invariant i h
