use Rattle.std.proofs.Common.{◌≡◌, List, IfOk, flat_map, map, sym, ap, ◌∙◌, subst}
use Rattle.vs_grammar.specs.Trees as tree
use Rattle.vs_ast.specs.Views as view
use Rattle.vs_const.specs.Faults.{least}
use Rattle.vs_elaborated.specs.Environments.{named}
use Rattle.vs_elaborated.specs.Unheard.{item_unheard}
use Rattle.vs_scope.specs.Contents.{contents_items}
use Rattle.vs_scope.specs.Frames.{view_env}
use Rattle.vs_items.proofs.Repeats.{items_are}
use Rattle.vs_items.proofs.unheard.body_unheard.Goals as goal

pub returns-in-Module : goal.returns-in-Module
returns-in-Module c =
    let all : contents_items c.args.contents ≡ map view.item c.deref.result.now =
    ap contents_items c.in-Module.is ∙ items_are c.in-Module.m.now.items.items ∙ ap (map view.item) (sym c.deref.ensures.value) in
    subst (λ (is : List tree.Item). IfOk c.items_unheard.result (λ f. f ≡ least (flat_map (item_unheard (named (view_env c.args.here.now))) is))) (sym all) c.items_unheard.ensures
