use Rattle.std.proofs.Common.{◌<◌, None, length, refl, sym, ◌∙◌, subst, arith}
use Rattle.std.proofs.lemmas.Option.{slice_get_read, get_or_from_slice_get}
use Rattle.vs_flat.specs.Lawful.{IsLawful, statement_design}
use Rattle.vs_shape.specs.Bodies.{body_of}
use Rattle.vs_typed.proofs.FunctionSteps.{clear_is}
use Rattle.vs_typed.proofs.functions.function_fits.Goals as goal

pub returns : goal.returns
returns c b is =
    let a = c.args.shapes.now in
    let f = c.args.f in
    let lawful = subst IsLawful c.flat.ensures.same c.flat.ensures.lawful in
    let places = c.requires.places in
    let s = body_of a b.statement in
    let bodies = c.calls_law.ensures.bodies a lawful.names f b is in
    let formed = c.lawful_law.ensures.statements a lawful b.statement (omega (arith, bodies.1, bodies.2)) in
    let wides = c.args.places.now.wide.items in
    let divisions = c.args.places.now.division.items in
    let in_wides : f < length wides = omega (arith, c.requires.there, places.all_wide) in
    let in_divisions : f < length divisions = omega (arith, c.requires.there, places.all_division) in
    let wide = sym (get_or_from_slice_get wides f c.index.result.now None (slice_get_read wides (length wides) f c.index.result.now refl in_wides c.index.ensures)) ∙ places.wide.each f b in_wides is 0 in
    let division = sym (get_or_from_slice_get divisions f c.index-2.result.now None (slice_get_read divisions (length divisions) f c.index-2.result.now refl in_divisions c.index-2.ensures)) ∙ places.division.each f b in_divisions is 0 in
    c.is_clear.ensures ∙ clear_is c.places_law.ensures.statements c.places_law.ensures.fits (statement_design a b.statement) s 0 formed c.index.result.now c.index-2.result.now wide division
