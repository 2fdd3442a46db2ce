use Rattle.std.proofs.Common.{◌∙◌, sym, ap, arith}
use Rattle.vs_design.specs.Elaborated.{is_formed_statement}
use Rattle.vs_flat.specs.Lawful.{statement_design}
use Rattle.vs_shape.specs.Bodies.{body_place}
use Rattle.vs_lower.proofs.Naming.{items_of, names_of}
use Rattle.vs_lower.proofs.statements.statement_of.Goals as goal

pub statement-requires : goal.statement-requires
statement-requires c = rw c.shapes.ensures (omega (arith, c.reach.ensures.statements))

pub returns-clause-names : goal.returns-clause-names
returns-clause-names c = names_of c.bounds_law.ensures.names c.args.templates.now c.reach.ensures.lawful.names c.args.s c.statement.result.now c.requires.there (rw c.shapes.ensures at c.statement.ensures.is)

pub returns-clause-target : goal.returns-clause-target
returns-clause-target c = rw c.shapes.ensures at c.statement.ensures.target

pub returns-clause-tree : goal.returns-clause-tree
returns-clause-tree c = rw c.shapes.ensures at c.statement.ensures.tree

pub returns-clause-items : goal.returns-clause-items
returns-clause-items c =
    let a = c.args.templates.now.arena in
    items_of (statement_design a c.args.s) a (body_place a c.args.s) c.statement.result.now
    (ap (is_formed_statement (statement_design a c.args.s)) (sym (rw c.shapes.ensures at c.statement.ensures.tree)) ∙ c.lawful_law.ensures.statements a c.reach.ensures.lawful c.args.s (omega (arith, c.reach.ensures.statements)))
