use Rattle.std.proofs.Common.{◌≡◌, map, subst, ap, ◌∙◌, sym, arith}
use Rattle.std.proofs.lemmas.Int.{to_z-of_z, fits_signed_from_abs}
use mir.Syntax.{w128}
use mir.Val.{SFits}
use Rattle.vs_four.specs.Selects.{Part, range_length, below, place_of, indices, indices_up}
use Rattle.vs_shape.proofs.PlaceSteps.{places_of_part}
use Rattle.vs_shape.proofs.places.start.Goals as goal

pub returns-clause-places : goal.returns-clause-places
returns-clause-places c =
    let i = c.part.inside in
    let base_fits : SFits w128 c.args.base = c.ranges.base in
    let lowest_fits : SFits w128 c.lowest_index-lowest.result = fits_signed_from_abs w128 c.lowest_index-lowest.result (omega (arith, c.lowest_index-lowest.ensures.fits)) in
    let fits : SFits w128 c.place.result = fits_signed_from_abs w128 c.place.result (omega (arith, c.place.ensures.fits)) in
    let base = to_z-of_z w128 c.args.base base_fits in
    let lowest = to_z-of_z w128 c.lowest_index-lowest.result lowest_fits in
    let place = to_z-of_z w128 c.place.result fits in
    let P : Part → Type 0 = λ p. map (place_of p.range) (indices p c.args.base) ≡ map (below (range_length p.range)) (indices_up c.place.result p.width) in
    subst P c.part.view_is
    (places_of_part (record { range = i.range; up = i.up; width = i.width }) c.args.base c.lowest_index-lowest.result c.place.result
    (rw base at c.lowest_index-lowest.ensures.value)
    (rw lowest at c.place.ensures.value))
    ∙ ap (λ s. map (below (range_length c.args.part.range)) (indices_up s c.args.part.width)) (sym place)
