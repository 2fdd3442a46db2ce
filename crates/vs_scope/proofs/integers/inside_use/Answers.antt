use Rattle.std.proofs.Common.{ap, sym, ◌∙◌}
use Rattle.vs_ast.specs.Views as view
use Rattle.vs_elaborated.specs.Uses.{all_use}
use Rattle.vs_scope.specs.Contents.{block_items}
use Rattle.vs_scope.proofs.IntegerUses.{all_use_is, one_use}
use Rattle.vs_scope.proofs.integers.inside_use.Goals as goal

pub returns-in-One : goal.returns-in-One
returns-in-One c =
    c.item_uses.ensures ∙ one_use c.args.as_head c.args.name.now (view.item c.in-One.item.now) ∙ sym (ap (λ xs. all_use c.args.as_head c.args.name.now (block_items xs)) c.in-One.is)

pub returns-in-Many : goal.returns-in-Many
returns-in-Many c =
    c.items_use.ensures ∙ all_use_is c.args.as_head c.args.name.now c.in-Many.list.now ∙ sym (ap (λ xs. all_use c.args.as_head c.args.name.now (block_items xs)) c.in-Many.is)
