use Rattle.std.proofs.Common.{refl, sym, ◌∙◌}
use Rattle.vs_grammar.specs.Verilog.{Rule as rule, r}
use Rattle.vs_grammar.specs.Meaning as meaning
use Rattle.vs_ast.specs.Views as view
use Rattle.vs_statements.proofs.Places.{answer_exit, refused_memory, refused_more}
use Rattle.vs_statements.proofs.Lists.{shorter, listing_from, listing_more, listing_done}
use Rattle.vs_statements.proofs.Pairs.{ok_at, err_at}
use Rattle.vs_statements.proofs.types.variable_list.Goals as goal

pub loop-depth-init : goal.loop-depth-init
loop-depth-init c = listing_from (r rule.Variables) meaning.variables_of view.variables c.args.input.now _ c.args.at c.args.depth.limit c.new-list.ensures.items

pub returns-in_err-before : goal.returns-in_err-before
returns-in_err-before c = answer_exit _ _ c.from_residual.result c.in_err-before.field-0.0 c.from_residual.ensures.1 (refused_more c.loop-depth.invariant.grown (sym c.are_variables_at.ensures ∙ c.loop-depth-test.true) (err_at _ _ c.in_err-before.ensures c.variables-next.ensures))

pub returns-in_err-list : goal.returns-in_err-list
returns-in_err-list c = answer_exit _ _ c.from_residual-in_err-list.result c.in_err-list.field-0.0 c.from_residual-in_err-list.ensures.1 (refused_memory c.in_err-list.ensures)

pub loop-depth-smaller : goal.loop-depth-smaller
loop-depth-smaller c = shorter (ok_at _ _ c.in_ok-before.ensures.1 c.variables-next.ensures).read refl

pub loop-depth-preserved : goal.loop-depth-preserved
loop-depth-preserved c = listing_more c.in_ok-before.next.value _ c.loop-depth.invariant (sym c.are_variables_at.ensures ∙ c.loop-depth-test.true) (ok_at _ _ c.in_ok-before.ensures.1 c.variables-next.ensures).read (ok_at _ _ c.in_ok-before.ensures.1 c.variables-next.ensures).made (rw c.in_ok-before.ensures.0 at c.in_ok-list.ensures)

pub returns : goal.returns
returns c = listing_done c.loop-depth.invariant (sym c.are_variables_at.ensures ∙ c.loop-depth-test.false)
