use Rattle.std.proofs.Common.{map}
use Rattle.vs_ast.specs.Views as view
use Rattle.vs_parser.specs.Parts as part
use Rattle.vs_statements.proofs.Places.{as_items}
use Rattle.vs_parser.proofs.Pieces.{ordered_nothing, ordered_some}
use Rattle.vs_parser.proofs.instances.by_order.Goals as goal

pub returns-then-is_nothing : goal.returns-then-is_nothing
returns-then-is_nothing c = ordered_nothing (map (view.option view.expr) c.args.list.items) (as_items (λ l. part.is_nothing (map (view.option view.expr) l)) c.as_slice.ensures.value c.is_nothing.ensures c.if-is_nothing.true)

pub returns : goal.returns
returns c = ordered_some (map (view.option view.expr) c.args.list.items) (as_items (λ l. part.is_nothing (map (view.option view.expr) l)) c.as_slice.ensures.value c.is_nothing.ensures c.if-is_nothing.false)
