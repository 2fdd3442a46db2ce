use Rattle.std.proofs.Common.{◌≡◌, ◌<◌, Bool, true, Some, None, length, arith, sym, ap, ◌∙◌, subst, if◌then◌else◌}
use Rattle.vs_design.specs.Fits.{fits_statement}
use Rattle.vs_flat.specs.Trees.{branch}
use Rattle.vs_shape.specs.Bodies.{HasBodyNames, body_of, body_of_statement, body_place}
use Rattle.vs_shape.specs.Nodes.{tree_of}
use Rattle.vs_clock.specs.Forms.{if_branch}
use Rattle.vs_clock.proofs.Branches.{condition_fits, first_below, no_statements, one_statement, other_statements}
use Rattle.vs_clock.proofs.form.+branch_of.Goals as goal

pub statement-requires : goal.statement-requires
statement-requires t c = c.requires.there

pub get-requires : goal.get-requires
get-requires t c = omega (arith, c.len.ensures, c.if-len-eq1.true)

pub branch_of-requires : goal.branch_of-requires
branch_of-requires t c =
    let a = c.args.shapes.now in
    let names = subst (HasBodyNames (length a.nodes) c.args.s) c.in-Seq.is c.statement.ensures.names in
    let below : c.get.result.now < c.args.s = first_below c.args.s c.in-Seq.parts c.get.result.now names c.get.ensures in
    let tree = c.statement.ensures.tree ∙ ap (body_of_statement a (body_place a c.args.s)) c.in-Seq.is in
    let one = one_statement (body_of a) c.in-Seq.parts c.get.result.now (omega (arith, c.len.ensures, c.if-len-eq1.true)) c.get.ensures in
    (omega (arith, below, c.decreases), (omega (arith, below, c.requires.there), subst (λ s. fits_statement s ≡ true) (tree ∙ one) c.requires.fits))

pub is_reset_condition-requires-clause-there : goal.is_reset_condition-requires-clause-there
is_reset_condition-requires-clause-there t c = let names = subst (HasBodyNames (length c.args.shapes.now.nodes) c.args.s) c.in-If.is c.statement.ensures.names in names.0

pub is_reset_condition-requires-clause-fits : goal.is_reset_condition-requires-clause-fits
is_reset_condition-requires-clause-fits t c =
    let a = c.args.shapes.now in
    let tree = c.statement.ensures.tree ∙ ap (body_of_statement a (body_place a c.args.s)) c.in-If.is in
    condition_fits (tree_of a c.in-If.c) (body_of a c.in-If.yes) (branch (body_of a) c.in-If.no) (subst (λ s. fits_statement s ≡ true) tree c.requires.fits)

pub returns-then-is_reset_condition-clause-branch : goal.returns-then-is_reset_condition-clause-branch
returns-then-is_reset_condition-clause-branch t c =
    let a = c.args.shapes.now in
    let tree = c.statement.ensures.tree ∙ ap (body_of_statement a (body_place a c.args.s)) c.in-If.is in
    sym (ap (if_branch c.args.edge c.args.bit) tree ∙ ap (λ (z : Bool). if z then Some (body_of a c.in-If.yes) else None) (sym c.is_reset_condition.ensures ∙ c.if-is_reset_condition.true))

pub returns-else-is_reset_condition-clause-branch : goal.returns-else-is_reset_condition-clause-branch
returns-else-is_reset_condition-clause-branch t c =
    let a = c.args.shapes.now in
    let tree = c.statement.ensures.tree ∙ ap (body_of_statement a (body_place a c.args.s)) c.in-If.is in
    sym (ap (if_branch c.args.edge c.args.bit) tree ∙ ap (λ (z : Bool). if z then Some (body_of a c.in-If.yes) else None) (sym c.is_reset_condition.ensures ∙ c.if-is_reset_condition.false))

pub returns-then-is_reset_condition-clause-there : goal.returns-then-is_reset_condition-clause-there
returns-then-is_reset_condition-clause-there t c =
    let names = subst (HasBodyNames (length c.args.shapes.now.nodes) c.args.s) c.in-If.is c.statement.ensures.names in
    omega (arith, names.1, c.requires.there)

pub returns-then-len-eq1-clause-branch : goal.returns-then-len-eq1-clause-branch
returns-then-len-eq1-clause-branch t c =
    let a = c.args.shapes.now in
    let tree = c.statement.ensures.tree ∙ ap (body_of_statement a (body_place a c.args.s)) c.in-Seq.is in
    let one = one_statement (body_of a) c.in-Seq.parts c.get.result.now (omega (arith, c.len.ensures, c.if-len-eq1.true)) c.get.ensures in
    c.branch_of.ensures.branch ∙ ap (if_branch c.args.edge c.args.bit) (sym (tree ∙ one))

pub returns-else-len-eq1-clause-branch : goal.returns-else-len-eq1-clause-branch
returns-else-len-eq1-clause-branch t c =
    let a = c.args.shapes.now in
    let tree = c.statement.ensures.tree ∙ ap (body_of_statement a (body_place a c.args.s)) c.in-Seq.is in
    sym (ap (if_branch c.args.edge c.args.bit) tree ∙ other_statements (body_of a) c.in-Seq.parts c.args.edge c.args.bit (λ l. c.if-len-eq1.false (omega (arith, l, c.len.ensures))))

pub returns-then-len-eq1-clause-there : goal.returns-then-len-eq1-clause-there
returns-then-len-eq1-clause-there t c = c.branch_of.ensures.there

pub returns-in_default : goal.returns-in_default
returns-in_default t c =
    let a = c.args.shapes.now in
    let place = body_place a c.args.s in
    record {
      branch = no_statements (tree_of a) (body_of a) place c.statement.result.now c.args.edge c.args.bit c.in_default.not-If c.in_default.not-Seq ∙ sym (ap (if_branch c.args.edge c.args.bit) c.statement.ensures.tree);
      there = tt;
    }
