use Rattle.std.proofs.Common.{subst}
use Rattle.vs_flat.specs.Lawful.{IsLawful}
use Rattle.vs_typed.proofs.ReachSteps.{statement_there, names_first}
use Rattle.vs_typed.proofs.nodes.statement_in.Goals as goal

pub statement-requires : goal.statement-requires
statement-requires c =
    let lawful = subst IsLawful c.flat.ensures.same c.flat.ensures.lawful in
    statement_there c.calls_law.ensures.bodies c.args.shapes.now lawful.names c.args.functions c.args.s c.requires.there

pub returns-clause-there : goal.returns-clause-there
returns-clause-there c =
    let lawful = subst IsLawful c.flat.ensures.same c.flat.ensures.lawful in
    statement_there c.calls_law.ensures.bodies c.args.shapes.now lawful.names c.args.functions c.args.s c.requires.there

pub returns-clause-names : goal.returns-clause-names
returns-clause-names c =
    let lawful = subst IsLawful c.flat.ensures.same c.flat.ensures.lawful in
    names_first c.names_law.ensures.statements c.calls_law.ensures.names c.args.shapes.now lawful.names c.args.functions c.args.s c.requires.there c.statement.result.now c.statement.ensures.is
