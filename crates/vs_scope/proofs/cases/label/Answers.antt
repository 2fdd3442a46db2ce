use Rattle.std.proofs.Common.{ℕ, refl, ap, ◌∙◌}
use Rattle.vs_ast.specs.Views as view
use Rattle.vs_const.specs.Faults.{least}
use Rattle.vs_const.specs.Expressions.{constant}
use Rattle.vs_elaborated.specs.Environments.{named}
use Rattle.vs_elaborated.specs.Constructs.{own_unknown, label_of}
use Rattle.vs_scope.specs.Frames.{view_env}
use Rattle.vs_scope.proofs.CaseLabels.{label_alone}
use Rattle.vs_scope.proofs.cases.label.Goals as goal

pub returns : goal.returns
returns c =
    let env = view_env c.args.here.now in
    let e = view.expr c.args.e.now in
    let t = constant e (named env) in
    let says = c.in_ok-c.ensures in
    label_alone (label_of env e) c.in_ok-c.c.said _ says.finds.checks refl c.length_or_none.ensures refl refl
    (c.own_unknown-unknown.ensures t says ∙ ap (λ (p : ℕ). least (own_unknown (record { place = p; typed = t }))) c.place_of.ensures)
