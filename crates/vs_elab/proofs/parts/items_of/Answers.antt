use Rattle.std.proofs.Common.{List, map, sym, ap, ◌∙◌}
use Rattle.vs_ast.specs.declared.items.Item.{Item}
use Rattle.vs_ast.specs.Views as view
use Rattle.vs_scope.specs.Contents.{block_items}
use Rattle.vs_elab.proofs.parts.items_of.Goals as goal

pub returns-in-One : goal.returns-in-One
returns-in-One c = ap (λ (xs : List Item). map view.item xs) c.from_ref.ensures.value ∙ sym (ap block_items c.in-One.is)

pub returns-in-Many : goal.returns-in-Many
returns-in-Many c = sym (ap block_items c.in-Many.is)
