use Rattle.std.proofs.Common.{◌≡◌, ◌+◌, ◌-◌, length, ap, ◌∙◌, arith}
use Rattle.std.proofs.lemmas.List.{length-map}
use Rattle.vs_plane.specs.Kernels.{lane_bits}
use Rattle.vs_plane.specs.Lanes.{value_bit, slot_lane}
use Rattle.vs_kern_arith.proofs.OrderLaws.{last_is}
use Rattle.vs_kern_arith.proofs.words.top_digit.Goals as goal

pub returns-then-width-gt0 : goal.returns-then-width-gt0
returns-then-width-gt0 g c = λ i h.
    let lane = g.W.Word.lane in
    let a = c.args.a.now in
    let last : length a ≡ (length a - 1) + 1 = omega arith in
    c.digit_at.ensures i h
    ∙ ap value_bit (last_is (lane_bits lane c.args.file.now a i) (length a - 1) (length-map a (λ slot. slot_lane lane c.args.file.now slot i) ∙ last))
