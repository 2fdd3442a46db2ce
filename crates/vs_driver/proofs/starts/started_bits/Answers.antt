use Rattle.std.proofs.Common.{◌≡◌, ◌<◌, ◌++◌, ℕ, List, Some, true, sym, ap, ◌∙◌, subst}
use Rattle.std.specs.Prelude.{slice_get}
use Rattle.std.specs.List.{list_all}
use Rattle.vs_design.specs.Designs.{Initial, bit_count}
use Rattle.vs_design.specs.Fits.{fits_initial}
use Rattle.vs_design.specs.Footprints.{contains}
use Rattle.vs_flat.specs.Arena.{Arena}
use Rattle.vs_flat.specs.DesignOf.{design_of}
use Rattle.vs_shape.specs.Bodies.{body_of}
use Rattle.vs_shape.specs.Gathered.{walked_statement}
use Rattle.vs_reads.proofs.FitKinds.{initial_is}
use Rattle.vs_driver.proofs.Marking.{walked_below}
use Rattle.vs_driver.proofs.starts.started_bits.Goals as goal

pub fit_initial-requires-clause-fits : goal.fit_initial-requires-clause-fits
fit_initial-requires-clause-fits c =
    subst (λ (a : Arena). list_all fits_initial (design_of a).initials ≡ true) (sym c.shapes-shapes.ensures) (c.fits_law.ensures.initials (design_of c.args.typed.now) c.flat-flat.ensures.lawful.design c.flat-flat.ensures.fits)

pub returns-clause-bits : goal.returns-clause-bits
returns-clause-bits c i h =
    let a = c.args.typed.now in
    let r = c.fit_initial.result in
    let at : slice_get a.initials c.args.k ≡ Some r = subst (λ (x : Arena). slice_get x.initials c.args.k ≡ Some r) c.shapes-shapes.ensures c.fit_initial.ensures.is in
    c.in_ok-push_statement.ensures ∙ ap (λ (zs : List ℕ). zs ++ walked_statement c.args.walk (body_of c.shapes-shapes.result.now r.statement)) c.new-bits.ensures.items
    ∙ ap (λ (x : Arena). walked_statement c.args.walk (body_of x r.statement)) c.shapes-shapes.ensures
    ∙ ap (λ (x : Initial). walked_statement c.args.walk x.statement) (initial_is c.trees_law.ensures.initials a c.args.k r i at h)

pub returns-clause-below : goal.returns-clause-below
returns-clause-below c b h =
    let s = body_of c.shapes-shapes.result.now c.fit_initial.result.statement in
    let bits = c.in_ok-push_statement.ensures ∙ ap (λ (zs : List ℕ). zs ++ walked_statement c.args.walk s) c.new-bits.ensures.items in
    subst (λ (x : Arena). b < bit_count (design_of x)) c.shapes-shapes.ensures
    (walked_below c.args.walk c.requires.writes (bit_count (design_of c.shapes-shapes.result.now)) s b c.fit_initial.ensures.fit c.fit_initial.ensures.within (ap (λ zs. contains zs b) (sym bits) ∙ h))
