use Rattle.std.proofs.Common.{length, map, sym, ap, ◌∙◌, arith}
use Rattle.std.proofs.lemmas.Int.{to_z-of_z, fits_signed_from_abs}
use mir.Syntax.{w128}
use mir.Val.{SFits}
use Rattle.vs_four.specs.Selects.{Part, place_of, indices, below, indices_up, write_places}
use Rattle.vs_four.proofs.SelectLemmas.{write-known, write-unknown}
use Rattle.vs_four.proofs.selects.write_part.Goals as goal

pub returns : goal.returns
returns c =
    let p : Part = record { range = c.args.range; up = c.args.up; width = length c.args.value } in
    let a = c.args.a in let s = c.start-place.result in let value = c.args.value in
    let base_fits : SFits w128 c.integer.result = fits_signed_from_abs w128 c.integer.result (omega (arith, c.integer.ensures.fits)) in
    let start_fits : SFits w128 s = fits_signed_from_abs w128 s (omega (arith, c.start-place.ensures.fits)) in
    let base = to_z-of_z w128 c.integer.result base_fits ∙ c.integer.ensures.value in
    c.overlaid.ensures
    ∙ ap (λ j. write_places a (map (below (length a)) (indices_up j (length value))) value) (to_z-of_z w128 s start_fits)
    ∙ write-known p c.args.signed a c.args.base value s (sym c.is_known.ensures ∙ c.if-not-is_known.false) c.requires
    (ap (λ i. map (place_of c.args.range) (indices p i)) (sym base) ∙ (rw c.len.ensures.length at c.start-place.ensures.places))

pub returns-then-not-is_known : goal.returns-then-not-is_known
returns-then-not-is_known c =
    let p : Part = record { range = c.args.range; up = c.args.up; width = length c.args.value } in
    write-unknown p c.args.signed c.args.a c.args.base c.args.value (sym c.is_known.ensures ∙ c.if-not-is_known.true)
