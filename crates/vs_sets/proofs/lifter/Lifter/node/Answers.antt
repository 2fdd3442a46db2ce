use Rattle.std.proofs.Common.{length, subst}
use Rattle.vs_flat.specs.Lawful.{IsLawful}
use Rattle.vs_sets.specs.Nodes.{tree_of_node}
use Rattle.vs_sets.proofs.Callees.{is_call}
use Rattle.vs_sets.proofs.Fit.{fit_parts}
use Rattle.vs_sets.proofs.Limits.{within_parts}
use Rattle.vs_sets.proofs.lifter.Lifter.node.Goals as goal

pub returns-clause-parts : goal.returns-clause-parts
returns-clause-parts c = fit_parts (tree_of_node c.args.self.now.shapes.now c.node.result.now) (rw c.node.ensures.tree at c.requires.fit)

pub returns-clause-within : goal.returns-clause-within
returns-clause-within c = within_parts (length c.args.self.now.table.now) (tree_of_node c.args.self.now.shapes.now c.node.result.now) (rw c.node.ensures.tree at c.requires.within)

pub returns-clause-call : goal.returns-clause-call
returns-clause-call c =
    is_call c.calls_law.ensures.calls c.lawful_law.ensures.expressions c.args.self.now.shapes.now (length c.args.self.now.table.now) c.args.e c.node.result.now (subst IsLawful c.flat.ensures.same c.flat.ensures.lawful) c.requires.there c.node.ensures.is
    c.node.ensures.names c.node.ensures.calls c.node.ensures.tree c.requires.fit c.requires.within
