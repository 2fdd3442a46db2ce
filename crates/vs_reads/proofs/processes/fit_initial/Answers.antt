use Rattle.std.proofs.Common.{subst, ap, sym, ◌∙◌}
use Rattle.std.specs.Prelude.{slice_get}
use Rattle.vs_flat.specs.Arena.{Arena}
use Rattle.vs_flat.specs.Lawful.{IsLawful}
use Rattle.vs_reads.proofs.FitKinds.{initial_there, initial_fits, initial_within}
use Rattle.vs_reads.proofs.processes.fit_initial.Goals as goal

pub returns-clause-there : goal.returns-clause-there
returns-clause-there c =
    let a = c.args.shapes.now in
    let lawful = subst IsLawful c.flat.ensures.same c.flat.ensures.lawful in
    initial_there c.names_law.ensures.initials c.trees_law.ensures.initials a lawful c.args.k c.initial.result (ap (λ (x : Arena). slice_get x.initials c.args.k) (sym c.flat.ensures.same) ∙ c.initial.ensures)

pub returns-clause-fit : goal.returns-clause-fit
returns-clause-fit c =
    let a = c.args.shapes.now in
    let lawful = subst IsLawful c.flat.ensures.same c.flat.ensures.lawful in
    initial_fits c.names_law.ensures.initials c.trees_law.ensures.initials a lawful c.args.k c.initial.result (ap (λ (x : Arena). slice_get x.initials c.args.k) (sym c.flat.ensures.same) ∙ c.initial.ensures) c.requires.fits

pub returns-clause-within : goal.returns-clause-within
returns-clause-within c =
    let a = c.args.shapes.now in
    let lawful = subst IsLawful c.flat.ensures.same c.flat.ensures.lawful in
    initial_within c.names_law.ensures.initials c.trees_law.ensures.initials a lawful c.args.k c.initial.result (ap (λ (x : Arena). slice_get x.initials c.args.k) (sym c.flat.ensures.same) ∙ c.initial.ensures) c.within_law.ensures.statements
