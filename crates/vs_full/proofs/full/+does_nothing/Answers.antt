use Rattle.std.proofs.Common.{◌<◌, ◌==◌, List, ℕ, length, sym, ap, ◌∙◌, subst, arith}
use Rattle.vs_design.specs.Selects.{is_nothing}
use Rattle.vs_shape.specs.Bodies.{HasBodyNames, body_of, body_of_statement, body_place}
use Rattle.vs_shape.specs.Nodes.{tree_of}
use Rattle.vs_full.proofs.Forming.{first_below, one_statement, other_statement, several_statements}
use Rattle.vs_full.proofs.full.+does_nothing.Goals as goal

pub statement-requires : goal.statement-requires
statement-requires t c = c.requires

pub get-requires : goal.get-requires
get-requires t c = omega (arith, c.len.ensures, c.if-len-eq1.true)

pub does_nothing-requires : goal.does_nothing-requires
does_nothing-requires t c =
    let a = c.args.shapes.now in
    let names = subst (HasBodyNames (length a.nodes) c.args.s) c.in-Seq.is c.statement.ensures.names in
    let below : c.get.result.now < c.args.s = first_below c.args.s c.in-Seq.parts c.get.result.now names c.get.ensures in
    (omega (arith, below, c.decreases), omega (arith, below, c.requires))

pub returns-in-Empty : goal.returns-in-Empty
returns-in-Empty t c =
    let a = c.args.shapes.now in
    let tree = c.statement.ensures.tree ∙ ap (body_of_statement a (body_place a c.args.s)) c.in-Empty.is in
    sym (ap is_nothing tree)

pub returns-then-len-eq1 : goal.returns-then-len-eq1
returns-then-len-eq1 t c =
    let a = c.args.shapes.now in
    let tree = c.statement.ensures.tree ∙ ap (body_of_statement a (body_place a c.args.s)) c.in-Seq.is in
    let one = one_statement (body_of a) c.in-Seq.parts c.get.result.now (omega (arith, c.len.ensures, c.if-len-eq1.true)) c.get.ensures in
    c.does_nothing.ensures ∙ ap is_nothing (sym (tree ∙ one))

pub returns-else-len-eq1 : goal.returns-else-len-eq1
returns-else-len-eq1 t c =
    let a = c.args.shapes.now in
    let tree = c.statement.ensures.tree ∙ ap (body_of_statement a (body_place a c.args.s)) c.in-Seq.is in
    c.are_none.ensures ∙ ap (λ (ps : List ℕ). length ps == 0) c.as_slice.ensures ∙ several_statements (body_of a) c.in-Seq.parts (λ l. c.if-len-eq1.false (omega (arith, l, c.len.ensures))) ∙ sym (ap is_nothing tree)

pub returns-in_default : goal.returns-in_default
returns-in_default t c =
    let a = c.args.shapes.now in
    other_statement (tree_of a) (body_of a) (body_place a c.args.s) c.statement.result.now c.in_default.not-Empty c.in_default.not-Seq ∙ sym (ap is_nothing c.statement.ensures.tree)
