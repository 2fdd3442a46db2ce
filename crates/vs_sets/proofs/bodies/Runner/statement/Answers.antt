use Rattle.vs_sets.specs.StatementParts.{place_of_statement, statement_of_node}
use Rattle.vs_sets.proofs.Completing.{done_tree}
use Rattle.vs_sets.proofs.Limits.{within_statement}
use Rattle.vs_sets.proofs.StatementNames.{names_below}
use Rattle.vs_sets.proofs.bodies.Runner.statement.Goals as goal

pub returns-clause-names : goal.returns-clause-names
returns-clause-names c = names_below c.args.self.now.shapes.now c.args.self.now.nodes c.args.s c.statement_node.result.now c.requires.below c.statement_node.ensures.is

pub returns-clause-within : goal.returns-clause-within
returns-clause-within c n h =
    let a = c.args.self.now.shapes.now in
    within_statement n (statement_of_node a (place_of_statement a c.args.s) c.statement_node.result.now) (rw c.statement_node.ensures.tree at h)

pub returns-clause-done : goal.returns-clause-done
returns-clause-done c complete =
    let a = c.args.self.now.shapes.now in
    done_tree complete a c.args.s (place_of_statement a c.args.s) c.statement_node.result.now c.statement_node.ensures.tree
