use Rattle.std.proofs.Common.{◌≡◌, ◌<◌, Some, true, length, sym, ap, ◌∙◌, subst, arith}
use Rattle.vs_design.specs.Fits.{fits_statement}
use Rattle.vs_design.specs.Latches.{latch_bits}
use Rattle.vs_flat.specs.Arena.{Arena, body_at}
use Rattle.vs_shape.specs.Bodies.{body_of}
use Rattle.vs_block.specs.Functions.{has_some}
use Rattle.vs_block.proofs.Latching.{statement_is, function_there, unfit, fit}
use Rattle.vs_typed.proofs.WeightSteps.{if_ok}
use Rattle.vs_block.proofs.functions.latches.Goals as goal

pub keeps-requires : goal.keeps-requires
keeps-requires c =
    let a = c.args.typed.now in
    let f = c.args.f in
    let lawful = c.flat.ensures.lawful in
    let body = c.body-body.result in
    let at = subst (λ (y : Arena). body_at y f ≡ Some body) c.flat.ensures.same c.body-body.ensures in
    let x = function_there c.trees_law.ensures.functions a lawful.names.matched f c.requires in
    let is = statement_is c.trees_law.ensures.functions a lawful.names.matched f x.0 body x.1 at in
    let bodies = c.calls_law.ensures.bodies a lawful.names f body at in
    let there : body.statement < length a.statements = omega (arith, bodies.1, bodies.2) in
    let fits : fits_statement (body_of a body.statement) ≡ true = ap fits_statement (sym is) ∙ sym (c.fits_function.ensures x.0 x.1) ∙ c.if-fits_function.true in
    record { there = subst (λ (y : Arena). body.statement < length y.statements) (sym c.shapes.ensures) there; fits = subst (λ (y : Arena). fits_statement (body_of y body.statement) ≡ true) (sym c.shapes.ensures) fits }

pub returns-then-fits_function : goal.returns-then-fits_function
returns-then-fits_function c =
    let a = c.args.typed.now in
    let f = c.args.f in
    let lawful = c.flat.ensures.lawful in
    let body = c.body-body.result in
    let at = subst (λ (y : Arena). body_at y f ≡ Some body) c.flat.ensures.same c.body-body.ensures in
    if_ok c.keeps.result c.keeps.ensures
    (λ r h x is.
    let same = ap (λ (y : Arena). has_some (latch_bits (body_of y body.statement))) c.shapes.ensures ∙ ap (λ s. has_some (latch_bits s)) (sym (statement_is c.trees_law.ensures.functions a lawful.names.matched f x body is at)) in
    fit x c.fits_function.result r (c.fits_function.ensures x is) c.if-fits_function.true (h ∙ same))

pub returns-else-fits_function : goal.returns-else-fits_function
returns-else-fits_function c x is = unfit x c.fits_function.result (c.fits_function.ensures x is) c.if-fits_function.false
