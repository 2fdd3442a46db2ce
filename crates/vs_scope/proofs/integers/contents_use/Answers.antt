use Rattle.std.proofs.Common.{List, ap, sym, ◌∙◌}
use Rattle.vs_ast.specs.declared.items.Item.{Item}
use Rattle.vs_ast.specs.Views as view
use Rattle.vs_elaborated.specs.Uses.{all_use, items_use}
use Rattle.vs_scope.specs.Contents.{contents_items}
use Rattle.vs_scope.proofs.IntegerUses.{listed_use}
use Rattle.vs_scope.proofs.integers.contents_use.Goals as goal

pub returns-in-Module : goal.returns-in-Module
returns-in-Module c =
    let head = c.args.as_head in
    let name = c.args.name.now in
    c.items_use.ensures ∙ ap (λ (xs : List Item). items_use head name (view.items xs)) c.deref.ensures.value ∙ listed_use head name (view.items c.in-Module.whole.now.items.items) ∙ sym (ap (λ x. all_use head name (contents_items x)) c.in-Module.is)
