use Rattle.std.proofs.Common.{◌≡◌, ◌-◌, Bool, ℤ, pos, negsuc, sym, ap₂, ◌∙◌, arith}
use Rattle.std.proofs.lemmas.Int.{ints}
use Rattle.vs_plane.specs.Kernels.{lane_bits}
use Rattle.vs_kern_select.specs.Matches.{is_number}
use Rattle.vs_kern_select.proofs.SelectNumbers.{number_of_signed, number_of_negative}
use Rattle.vs_kern_select.proofs.selects.lanes_of_number.Goals as goal

pub returns-in-true-true : goal.returns-in-true-true
returns-in-true-true g c = λ i h.
    let distance = c.unsigned_abs-distance.result in
    let a = lane_bits g.W.Word.lane c.args.file.now c.args.base.now i in
    let is : negsuc (distance - 1) ≡ c.args.number = grind (arith, ints, c.in-true-true.is-0, c.unsigned_abs-distance.ensures.value) in
    c.lanes_of_signed.ensures i h
    ∙ number_of_negative a (distance - 1)
    ∙ ap₂ (λ (s : Bool) (v : ℤ). is_number s a v) (sym c.in-true-true.is-1) is

pub returns-in-false-true : goal.returns-in-false-true
returns-in-false-true g c = λ i h.
    let distance = c.unsigned_abs-distance.result in
    let a = lane_bits g.W.Word.lane c.args.file.now c.args.base.now i in
    let is : pos distance ≡ c.args.number = grind (arith, ints, c.in-false-true.is-0, c.unsigned_abs-distance.ensures.value) in
    c.lanes_of_signed-in-false-true.ensures i h
    ∙ number_of_signed a distance
    ∙ ap₂ (λ (s : Bool) (v : ℤ). is_number s a v) (sym c.in-false-true.is-1) is
