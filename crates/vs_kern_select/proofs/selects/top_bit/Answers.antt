use Rattle.std.proofs.Common.{◌≡◌, ◌+◌, ◌-◌, length, sym, ◌∙◌, arith}
use Rattle.vs_plane.specs.Kernels.{lane_bits}
use Rattle.vs_kern_select.proofs.SelectNumbers.{last_is}
use Rattle.vs_kern_select.proofs.selects.top_bit.Goals as goal

pub returns-then-width-gt0 : goal.returns-then-width-gt0
returns-then-width-gt0 g c = λ i h.
    let lane = g.W.Word.lane in
    let law = c.filling_law.ensures in
    let file = c.args.file.now in
    let a = c.args.a.now in
    let last : length a ≡ (length a - 1) + 1 = omega arith in
    c.load.ensures.lanes i
    ∙ sym (law.bit file a (length a - 1) i (omega arith))
    ∙ last_is (lane_bits lane file a i) (length a - 1) (law.long file a i ∙ last)
