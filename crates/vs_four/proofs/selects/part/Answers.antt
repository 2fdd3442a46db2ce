use Rattle.std.proofs.Common.{◌≡◌, length, map, replicate, pos, neg_ℤ, ◌-ℤ◌, sym, ap, ap₂, ◌∙◌, arith}
use Rattle.std.proofs.lemmas.Int.{ints, to_z-of_z, fits_signed_from_abs}
use Rattle.std.proofs.lemmas.List.{length-replicate}
use mir.Syntax.{w128}
use mir.Val.{to_z, of_z, SFits}
use Rattle.vs_four.specs.declared.Bit4.TheVariants.{X}
use Rattle.vs_four.specs.Selects.{Part, place_of, indices, below, indices_up, write_places}
use Rattle.vs_four.proofs.SelectLemmas.{select-known, select-unknown}
use Rattle.vs_four.proofs.selects.part.Goals as goal

pub returns-then-is_known : goal.returns-then-is_known
returns-then-is_known c =
    let p : Part = record { range = c.args.range; up = c.args.up; width = c.args.width } in
    let a = c.args.a in let s = c.start.result in
    let base_fits : SFits w128 c.integer.result = fits_signed_from_abs w128 c.integer.result (omega (arith, c.integer.ensures.fits)) in
    let opposite : to_z w128 (of_z w128 (pos 0 -ℤ to_z w128 (of_z w128 s))) ≡ neg_ℤ s = omega (arith, ints, c.start.ensures.fits) in
    let base = to_z-of_z w128 c.integer.result base_fits ∙ c.integer.ensures.value in
    let none = c.repeated-none.ensures in
    c.overlaid.ensures
    ∙ ap₂ (λ z j. write_places z (map (below (length z)) (indices_up j (length a))) a) none opposite
    ∙ ap (λ n. write_places (replicate c.args.width X) (map (below n) (indices_up (neg_ℤ s) (length a))) a) (length-replicate c.args.width X)
    ∙ select-known p c.args.signed a c.args.base s (sym c.is_known.ensures ∙ c.if-is_known.true) c.requires.of_range
    (ap (λ i. map (place_of c.args.range) (indices p i)) (sym base) ∙ c.start.ensures.places)

pub returns-else-is_known : goal.returns-else-is_known
returns-else-is_known c =
    let p : Part = record { range = c.args.range; up = c.args.up; width = c.args.width } in
    c.repeated-none.ensures ∙ select-unknown p c.args.signed c.args.a c.args.base (sym c.is_known.ensures ∙ c.if-is_known.false)
