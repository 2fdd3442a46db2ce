use Rattle.vs_sets.proofs.Completing.{done_tree}
use Rattle.vs_block.proofs.Names.{statement_parts, statement_tree_is}
use Rattle.vs_block.proofs.nodes.statement_of.Goals as goal

pub returns-clause-parts : goal.returns-clause-parts
returns-clause-parts c =
    let a = c.args.shapes.now in
    let lawful = rw c.flat.ensures.same at c.flat.ensures.lawful in
    let at = rw c.flat.ensures.same at c.statement.ensures in
    let place = rw c.flat-2.ensures.same at c.statement_at.ensures in
    statement_parts c.names_law.ensures.statements c.lawful_law.ensures.statement_targets a lawful c.args.s c.statement_at.result c.statement.result.now at
    (statement_tree_is c.trees_law.ensures.statements a lawful c.args.s c.statement_at.result c.statement.result.now at place) c.requires.fits

pub returns-clause-tree : goal.returns-clause-tree
returns-clause-tree c =
    statement_tree_is c.trees_law.ensures.statements c.args.shapes.now (rw c.flat.ensures.same at c.flat.ensures.lawful) c.args.s c.statement_at.result c.statement.result.now (rw c.flat.ensures.same at c.statement.ensures)
    (rw c.flat-2.ensures.same at c.statement_at.ensures)

pub returns-clause-is : goal.returns-clause-is
returns-clause-is c = rw c.flat.ensures.same at c.statement.ensures

pub returns-clause-done : goal.returns-clause-done
returns-clause-done c complete = done_tree complete c.args.shapes.now c.args.s c.statement_at.result c.statement.result.now (returns-clause-tree c)
