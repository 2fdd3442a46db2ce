use Rattle.std.proofs.Common.{◌≡◌, List, Option, IfOk, flat_map, map, subst}
use Rattle.vs_grammar.specs.Trees as tree
use Rattle.vs_ast.specs.declared.items.Instance.{Instance}
use Rattle.vs_ast.specs.Views as view
use Rattle.vs_const.specs.declared.faults.Fault.{Fault}
use Rattle.vs_const.specs.Faults.{least}
use Rattle.vs_elaborated.specs.Environments.{named}
use Rattle.vs_elaborated.specs.Unheard.{connections_unheard}
use Rattle.vs_scope.specs.Frames.{view_env}
use Rattle.vs_items.proofs.unheard.instances_unheard.Goals as goal

pub returns : goal.returns
returns c =
    let t = view.instances c.args.t.now in
    let found = λ (i : tree.Instance). connections_unheard t.of.place (named (view_env c.args.here.now)) i.connections in
    subst (λ (xs : List Instance). IfOk c.each_unheard.result (λ (f : Option Fault). f ≡ least (flat_map found (map view.instance xs)))) c.deref.ensures.value c.each_unheard.ensures
