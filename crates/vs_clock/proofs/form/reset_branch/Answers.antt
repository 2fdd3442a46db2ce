use Rattle.std.proofs.Common.{◌≡◌, true, Some, None, sym, ap, ◌∙◌, subst, if◌then◌else◌}
use Rattle.vs_design.specs.Fits.{fits_statement}
use Rattle.vs_flat.specs.Arena.{Arena}
use Rattle.vs_shape.specs.Bodies.{body_of}
use Rattle.vs_clock.specs.Forms.{if_branch}
use Rattle.vs_clock.proofs.Branches.{branch_is, branch_none}
use Rattle.vs_clock.proofs.form.reset_branch.Goals as goal

pub branch_of-requires-clause-fits : goal.branch_of-requires-clause-fits
branch_of-requires-clause-fits c = subst (λ (a : Arena). fits_statement (body_of a c.args.s) ≡ true) (sym c.shapes.ensures) c.requires.fits

pub returns-then-is_fixed_branch-clause-branch : goal.returns-then-is_fixed_branch-clause-branch
returns-then-is_fixed_branch-clause-branch c =
    ap (λ t. if t then Some (body_of c.args.typed.now c.in-Some.branch) else None) (sym c.if-is_fixed_branch.true ∙ c.is_fixed_branch.ensures)
    ∙ branch_is c.args.edge c.args.bit (body_of c.args.typed.now c.args.s) (body_of c.args.typed.now c.in-Some.branch)
    (subst (λ (a : Arena). Some (body_of a c.in-Some.branch) ≡ if_branch c.args.edge c.args.bit (body_of a c.args.s)) c.shapes.ensures c.in-Some.ensures.branch)

pub returns-else-is_fixed_branch-clause-branch : goal.returns-else-is_fixed_branch-clause-branch
returns-else-is_fixed_branch-clause-branch c =
    ap (λ t. if t then Some (body_of c.args.typed.now c.in-Some.branch) else None) (sym c.if-is_fixed_branch.false ∙ c.is_fixed_branch.ensures)
    ∙ branch_is c.args.edge c.args.bit (body_of c.args.typed.now c.args.s) (body_of c.args.typed.now c.in-Some.branch)
    (subst (λ (a : Arena). Some (body_of a c.in-Some.branch) ≡ if_branch c.args.edge c.args.bit (body_of a c.args.s)) c.shapes.ensures c.in-Some.ensures.branch)

pub returns-in-None-clause-branch : goal.returns-in-None-clause-branch
returns-in-None-clause-branch c =
    branch_none c.args.edge c.args.bit (body_of c.args.typed.now c.args.s)
    (subst (λ (a : Arena). None ≡ if_branch c.args.edge c.args.bit (body_of a c.args.s)) c.shapes.ensures c.in-None.ensures.branch)
