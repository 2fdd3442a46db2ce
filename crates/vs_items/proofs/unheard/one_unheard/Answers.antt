use Rattle.std.proofs.Common.{◌≡◌, List, IfOk, sym, subst}
use Rattle.std.proofs.lemmas.List.{append-nil}
use Rattle.vs_ast.specs.Views as view
use Rattle.vs_const.specs.declared.faults.Fault.{Fault}
use Rattle.vs_const.specs.Faults.{least}
use Rattle.vs_elaborated.specs.Environments.{named}
use Rattle.vs_elaborated.specs.Unheard.{item_unheard}
use Rattle.vs_scope.specs.Frames.{view_env}
use Rattle.vs_items.proofs.unheard.one_unheard.Goals as goal

pub returns : goal.returns
returns c =
    subst (λ (fs : List Fault). IfOk c.item_unheard.result (λ f. f ≡ least fs)) (sym (append-nil (item_unheard (named (view_env c.args.here.now)) (view.item c.args.item.now)))) c.item_unheard.ensures
