use Rattle.std.specs.Prelude.{IfErr}
use Rattle.std.proofs.Common.{◌≡◌, None, Some, ap, sym, subst, ◌∙◌, arith}
use Rattle.vs_design.specs.Refusals.{TooLarge}
use Rattle.vs_design.specs.Sizes.{awake_size}
use Rattle.vs_flat.specs.Arena.{Arena}
use Rattle.vs_flat.specs.DesignOf.{design_of}
use Rattle.vs_typed.specs.Refused.{IsWidthError, first_refused}
use Rattle.vs_typed.specs.Weights.{capped}
use Rattle.vs_typed.proofs.FoundSteps.{whole_refused}
use Rattle.vs_typed.proofs.Unrefused.{awake_refused}
use Rattle.vs_typed.proofs.design.type_design.Goals as goal

pub returns-clause-refused : goal.returns-clause-refused
returns-clause-refused c = subst (λ (y : Arena). IfErr c.of.result (IsWidthError (design_of y))) c.in-Ok.ensures.same c.of.ensures.refused

pub returns-in-Err-clause-refused : goal.returns-in-Err-clause-refused
returns-in-Err-clause-refused c = whole_refused (design_of c.args.flat) c.in-Err.error c.in-Err.ensures.refused

pub returns-then-awake-gt16777216-clause-refused : goal.returns-then-awake-gt16777216-clause-refused
returns-then-awake-gt16777216-clause-refused c =
    let same = c.in-Ok.ensures.same in
    let d = design_of c.args.flat in
    let none = subst (λ (y : Arena). first_refused (design_of y) ≡ None) same c.in-Ok.ensures.passes in
    let is : c.in_ok-awake.awake ≡ capped (awake_size d) = c.in_ok-awake.ensures ∙ ap (λ (y : Arena). capped (awake_size (design_of y))) same in
    awake_refused d none (omega (arith, is, c.if-awake-gt16777216.true)) ∙ ap (λ n. Some (TooLarge n)) (sym is)
