use Rattle.std.proofs.Common.{ap, sym, ◌∙◌}
use Rattle.vs_ast.specs.Views as view
use Rattle.vs_scope.specs.Views as scope
use Rattle.vs_scope.specs.Declares.{both_kinds, open_kind}
use Rattle.vs_scope.proofs.OpenKinds.{sorts_by_kinds}
use Rattle.vs_scope.proofs.declare.are_sorts_of_one.Goals as goal

pub returns : goal.returns
returns c =
    c.are_of_one.ensures ∙ ap (λ k. both_kinds k (view.option view.signal_kind c.open_kind-2.result)) c.open_kind.ensures ∙ ap (λ k. both_kinds (open_kind (scope.sort c.args.a)) k) c.open_kind-2.ensures
    ∙ sym (sorts_by_kinds (scope.sort c.args.a) (scope.sort c.args.b))
