use Rattle.std.proofs.Common.{◌≡◌, ◌<◌, length, Some, sym, subst, arith}
use Rattle.vs_flat.specs.Arena.{Arena, node_at}
use Rattle.vs_design.specs.Expressions as E
use Rattle.vs_flat.specs.Lawful.{IsLawful}
use Rattle.vs_shape.specs.Nodes.{HasCalls, tree_of, place_of, tree_of_node}
use Rattle.vs_values.proofs.Tables.{calls_first, formed_of}
use Rattle.vs_values.proofs.templates.Templates.expr.Goals as goal

pub returns-clause-there : goal.returns-clause-there
returns-clause-there c = omega (arith, c.requires, (c.bounds_law.ensures.there c.args.self.now c.flat.ensures.lawful.names).0)

pub node_of-requires-clause-there : goal.node_of-requires-clause-there
node_of-requires-clause-there c =
    subst (λ (a : Arena). c.args.e < length a.nodes) (sym c.flat.ensures.same) (omega (arith, c.requires, (c.bounds_law.ensures.there c.args.self.now c.flat.ensures.lawful.names).0))

pub node_of-requires-clause-lawful : goal.node_of-requires-clause-lawful
node_of-requires-clause-lawful c = subst IsLawful (sym c.flat.ensures.same) c.flat.ensures.lawful

pub returns-clause-calls : goal.returns-clause-calls
returns-clause-calls c =
    let a = c.args.self.now.arena in
    let node = c.node_of.result.now in
    calls_first c.calls_law.ensures.before c.args.self.now c.flat.ensures.lawful c.args.e node c.requires
    (subst (λ (x : Arena). node_at x c.args.e ≡ Some node) c.flat.ensures.same c.node_of.ensures.is) (subst (λ (x : Arena). HasCalls x node) c.flat.ensures.same c.node_of.ensures.calls)

pub returns-clause-formed : goal.returns-clause-formed
returns-clause-formed c =
    let a = c.args.self.now.arena in
    let node = c.node_of.result.now in
    formed_of c.lawful_law.ensures.expressions a c.flat.ensures.lawful c.args.e node (omega (arith, c.requires, (c.bounds_law.ensures.there c.args.self.now c.flat.ensures.lawful.names).0))
    (subst (λ (x : Arena). tree_of x c.args.e ≡ E.At (place_of x c.args.e) (tree_of_node x node)) c.flat.ensures.same c.node_of.ensures.tree)
