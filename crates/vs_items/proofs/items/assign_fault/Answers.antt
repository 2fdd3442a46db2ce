use Rattle.std.proofs.Common.{false, ap, sym, ◌∙◌}
use Rattle.vs_ast.specs.Views as view
use Rattle.vs_const.specs.Faults.{least, better}
use Rattle.vs_const.specs.Expressions.{typed}
use Rattle.vs_const.proofs.Least.{least_append}
use Rattle.vs_elaborated.specs.Environments.{named}
use Rattle.vs_elaborated.specs.Targets.{typed_target}
use Rattle.vs_scope.specs.Frames.{view_env}
use Rattle.vs_items.proofs.items.assign_fault.Goals as goal

pub check_target-requires-clause-fair : goal.check_target-requires-clause-fair
check_target-requires-clause-fair c = c.fair_law.ensures c.args.here.now

pub returns : goal.returns
returns c =
    let find = named (view_env c.args.here.now) in
    let a = view.assign c.args.a.now in
    let t = (typed_target a.target find false).faults in
    c.first_of.ensures ∙ ap (λ x. better x c.in_ok-value.value) c.in_ok-target.ensures ∙ ap (better (least t)) c.in_ok-value.ensures
    ∙ sym (least_append t (typed a.e find false).faults)
