use Rattle.std.proofs.Common.{refl, sym, ◌∙◌}
use Rattle.vs_statements.proofs.Places.{answer_exit, refused_more}
use Rattle.vs_statements.proofs.Lists.{shorter}
use Rattle.vs_parser.proofs.Blocks.{items_start, items_more, items_done}
use Rattle.vs_parser.proofs.items.items.Goals as goal

pub loop-depth-init : goal.loop-depth-init
loop-depth-init c = items_start c.args.input.now c.args.depth.value c.args.at _ c.args.depth.limit c.new-list.ensures.items

pub returns-in_err-next : goal.returns-in_err-next
returns-in_err-next c = answer_exit _ _ c.from_residual.result c.in_err-next.field-0.0 c.from_residual.ensures.1 (refused_more c.loop-depth.invariant.grown (sym c.is_item_at.ensures ∙ c.loop-depth-test.true) c.in_err-next.ensures)

pub loop-depth-smaller : goal.loop-depth-smaller
loop-depth-smaller c = shorter c.in_ok-next.ensures.read refl

pub loop-depth-preserved : goal.loop-depth-preserved
loop-depth-preserved c = items_more c.loop-depth.invariant (sym c.is_item_at.ensures ∙ c.loop-depth-test.true) c.in_ok-next.ensures

pub returns : goal.returns
returns c = items_done c.loop-depth.invariant (sym c.is_item_at.ensures ∙ c.loop-depth-test.false)
