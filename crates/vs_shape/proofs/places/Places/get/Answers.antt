use Rattle.std.proofs.Common.{◌≡◌, ◌<◌, ◌+ℤ◌, pos, None, length, get_or, sym, ap, ◌∙◌, arith}
use Rattle.std.proofs.lemmas.Int.{to_z-of_z, fits_signed_from_abs}
use mir.Syntax.{w128}
use mir.Val.{SFits}
use Rattle.vs_four.specs.Selects.{below}
use Rattle.vs_shape.proofs.PlaceSteps.{length-kept, place_at-up}
use Rattle.vs_shape.proofs.places.Places.get.Goals as goal

pub returns : goal.returns
returns c =
    let i = c.self.inside in
    let few : c.args.k < i.width = omega (arith, length-kept i.range_len i.start i.width, ap length c.self.view_is) in
    let near : SFits w128 i.start = fits_signed_from_abs w128 i.start (omega (arith, c.self.invariant.near)) in
    let fits : SFits w128 c.after.result = fits_signed_from_abs w128 c.after.result (omega (arith, c.after.ensures.small)) in
    let start = to_z-of_z w128 i.start near in
    let at : c.after.result ≡ i.start +ℤ pos c.args.k = rw start at c.after.ensures.value in
    c.below.ensures ∙ ap (below i.range_len) (to_z-of_z w128 c.after.result fits ∙ at)
    ∙ sym (place_at-up i.range_len i.start i.width c.args.k few) ∙ ap (λ xs. get_or xs c.args.k None) c.self.view_is
