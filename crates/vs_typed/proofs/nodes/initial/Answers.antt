use Rattle.std.proofs.Common.{◌≡◌, Some, length, subst}
use Rattle.std.specs.Prelude.{slice_get}
use Rattle.std.proofs.lemmas.Bool.{ltb-true}
use Rattle.vs_flat.specs.Arena.{Arena}
use Rattle.vs_flat.specs.Lawful.{IsLawful}
use Rattle.vs_typed.proofs.nodes.initial.Goals as goal

pub returns-clause-names : goal.returns-clause-names
returns-clause-names c =
    let a = c.args.shapes.now in
    let lawful = subst IsLawful c.flat.ensures.same c.flat.ensures.lawful in
    ltb-true c.initial.result.statement (length a.statements)
    (c.names_law.ensures.initials a lawful.names c.args.k c.initial.result (subst (λ (y : Arena). slice_get y.initials c.args.k ≡ Some c.initial.result) c.flat.ensures.same c.initial.ensures))
