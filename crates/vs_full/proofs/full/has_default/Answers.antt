use Rattle.std.proofs.Common.{not, Option, ℕ, length, sym, ap, ◌∙◌, subst}
use Rattle.vs_design.specs.Selects.{is_nothing}
use Rattle.vs_flat.specs.Trees.{branch}
use Rattle.vs_sets.specs.StatementParts.{BranchBelow, statement_of}
use Rattle.vs_full.proofs.full.has_default.Goals as goal

pub does_nothing-requires : goal.does_nothing-requires
does_nothing-requires c = subst (BranchBelow (length c.args.shapes.now.statements)) c.in-Some.is c.requires

pub returns-in-Some : goal.returns-in-Some
returns-in-Some c =
    let a = c.args.shapes.now in
    ap not c.does_nothing.ensures ∙ sym (ap (λ (o : Option ℕ). not (is_nothing (branch (statement_of a) o))) c.in-Some.is)

pub returns-in-None : goal.returns-in-None
returns-in-None c =
    let a = c.args.shapes.now in
    sym (ap (λ (o : Option ℕ). not (is_nothing (branch (statement_of a) o))) c.in-None.is)
