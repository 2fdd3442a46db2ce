use Rattle.std.proofs.Common.{ap, ◌∙◌, arith}
use Rattle.std.proofs.lemmas.Int.{to_z-of_z, fits_signed_from_abs}
use mir.Syntax.{w128}
use mir.Val.{SFits}
use Rattle.vs_plane.specs.Kernels.{lane_bits}
use Rattle.vs_kern_select.specs.Matches.{is_number}
use Rattle.vs_kern_select.specs.Operators.{part_of}
use Rattle.vs_kern_select.proofs.SelectPlaces.{number_is_place}
use Rattle.vs_kern_select.proofs.selects.lanes_of_place.Goals as goal

pub returns : goal.returns
returns g c = λ i h.
    let selection = c.args.selection in
    let number = c.base_of_place-number.result in
    let fits : SFits w128 number = fits_signed_from_abs w128 number (omega (arith, c.base_of_place-number.ensures.fits)) in
    let base = lane_bits g.W.Word.lane c.args.file.now c.args.base.now i in
    c.lanes_of_number.ensures i h
    ∙ ap (is_number selection.signed base) (to_z-of_z w128 number fits ∙ c.base_of_place-number.ensures.value)
    ∙ number_is_place (part_of selection c.args.width) selection.signed base c.args.bit c.args.place c.requires.bit c.requires.place
