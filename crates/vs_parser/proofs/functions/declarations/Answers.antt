use Rattle.std.proofs.Common.{refl, sym, ◌∙◌, ap, map}
use Rattle.vs_ast.specs.Views as view
use Rattle.vs_statements.proofs.Places.{answer_exit, refused_more}
use Rattle.vs_statements.proofs.Lists.{shorter}
use Rattle.vs_parser.proofs.FunctionHeads.{declarations_start, declarations_more, declarations_done}
use Rattle.vs_parser.proofs.functions.declarations.Goals as goal

pub loop-depth-init : goal.loop-depth-init
loop-depth-init c = declarations_start c.args.input.now c.args.depth.value c.args.at _ c.args.depth.limit (ap (map view.variables) c.new-inputs.ensures.items) (ap (map view.variables) c.new-variables.ensures.items)

pub returns-in_err-next : goal.returns-in_err-next
returns-in_err-next c = answer_exit _ _ c.from_residual.result c.in_err-next.field-0.0 c.from_residual.ensures.1 (refused_more c.loop-depth.invariant.grown (sym c.is_declaration_at.ensures ∙ c.loop-depth-test.true) c.in_err-next.ensures)

pub loop-depth-smaller : goal.loop-depth-smaller
loop-depth-smaller c = shorter c.in_ok-next.ensures.read refl

pub loop-depth-preserved : goal.loop-depth-preserved
loop-depth-preserved c = declarations_more c.loop-depth.invariant (sym c.is_declaration_at.ensures ∙ c.loop-depth-test.true) c.in_ok-next.ensures

pub returns : goal.returns
returns c = declarations_done c.loop-depth.invariant (sym c.is_declaration_at.ensures ∙ c.loop-depth-test.false)
