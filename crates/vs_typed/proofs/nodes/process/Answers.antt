use Rattle.std.proofs.Common.{◌≡◌, Some, refl, subst}
use Rattle.std.specs.Prelude.{slice_get}
use Rattle.vs_flat.specs.Arena.{Arena}
use Rattle.vs_flat.specs.Lawful.{IsLawful}
use Rattle.vs_typed.proofs.FoundSteps.{kind_names}
use Rattle.vs_typed.proofs.nodes.process.Goals as goal

pub returns-clause-names : goal.returns-clause-names
returns-clause-names c =
    let a = c.args.shapes.now in
    kind_names c.names_law.ensures.processes c.lawful_law.ensures.assign_targets a (subst IsLawful c.flat.ensures.same c.flat.ensures.lawful) c.args.p c.process.result.now
    (subst (λ (y : Arena). slice_get y.processes c.args.p ≡ Some c.process.result.now) c.flat.ensures.same c.process.ensures) c.process.result.now.kind refl
