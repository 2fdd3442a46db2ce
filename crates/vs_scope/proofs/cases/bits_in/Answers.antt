use Rattle.std.proofs.Common.{◌≤◌, ap, ◌∙◌, subst, sym}
use Rattle.vs_ast.specs.Views as view
use Rattle.vs_design.specs.Expressions.{width}
use Rattle.vs_const.specs.Expressions.{constant}
use Rattle.vs_const.proofs.Good.{typed_long}
use Rattle.vs_elaborated.specs.Environments.{named}
use Rattle.vs_elaborated.specs.Constructs.{length_or_none}
use Rattle.vs_scope.specs.Frames.{view_env}
use Rattle.vs_scope.proofs.Fair.{view_fair}
use Rattle.vs_scope.proofs.Says.{says_good}
use Rattle.vs_scope.proofs.cases.bits_in.Goals as goal

pub value-requires-clause-form : goal.value-requires-clause-form
value-requires-clause-form c = (says_good c.in_ok-c.c (constant (view.expr c.args.e.now) (named (view_env c.args.here.now))) c.in-Some.f c.in_ok-c.ensures c.in-Some.is).well

pub value-requires-clause-fits : goal.value-requires-clause-fits
value-requires-clause-fits c =
    let e = view.expr c.args.e.now in
    let t = constant e (named (view_env c.args.here.now)) in
    let of = says_good c.in_ok-c.c t c.in-Some.f c.in_ok-c.ensures c.in-Some.is in
    let long = typed_long (named (view_env c.args.here.now)) (view_fair c.args.here.now) e c.requires.fit.shaped c.requires.fit.good in
    subst (λ n. n ≤ c.args.width) (ap length_or_none long.length ∙ ap width (sym of.same)) c.requires.fit.fits
