use Rattle.std.proofs.Common.{subst}
use Rattle.vs_flat.specs.Lawful.{IsLawful}
use Rattle.vs_typed.proofs.ReachSteps.{node_there, calls_first}
use Rattle.vs_typed.proofs.nodes.node_in.Goals as goal

pub node-requires : goal.node-requires
node-requires c =
    let lawful = subst IsLawful c.flat.ensures.same c.flat.ensures.lawful in
    node_there c.calls_law.ensures.bodies c.args.shapes.now lawful.names c.args.functions c.args.e c.requires.there

pub returns-clause-there : goal.returns-clause-there
returns-clause-there c =
    let lawful = subst IsLawful c.flat.ensures.same c.flat.ensures.lawful in
    node_there c.calls_law.ensures.bodies c.args.shapes.now lawful.names c.args.functions c.args.e c.requires.there

pub returns-clause-first : goal.returns-clause-first
returns-clause-first c =
    let lawful = subst IsLawful c.flat.ensures.same c.flat.ensures.lawful in
    calls_first c.names_law.ensures.calls c.calls_law.ensures.before c.args.shapes.now lawful.names c.args.functions c.args.e c.requires.few c.requires.there c.node.result.now c.node.ensures.is
