use Rattle.std.proofs.Common.{refl}
use Rattle.vs_grammar.specs.Verilog.{Rule as rule, r}
use Rattle.vs_grammar.specs.Meaning as meaning
use Rattle.vs_ast.specs.Views as view
use Rattle.vs_statements.specs.declared.error.ParseError.TheVariants.{Memory}
use Rattle.vs_statements.specs.Reading.Refused.{out_of_memory}
use Rattle.vs_statements.proofs.Places.{answer_exit, refused_memory, refused_more, one_true, one_false}
use Rattle.vs_statements.proofs.Lists.{shorter, listing_start, listing_more, listing_behind}
use Rattle.vs_statements.proofs.Pairs.{ok_at, err_at}
use Rattle.vs_parser.proofs.modules.more_modules.Goals as goal

pub loop-depth-init : goal.loop-depth-init
loop-depth-init c = listing_start c.args.input.now (r rule.Module) meaning.module_of view.module_tree c.args.depth.value c.args.before.items c.args.at c.args.depth.limit

pub returns-in_err-before : goal.returns-in_err-before
returns-in_err-before c = answer_exit _ _ c.from_residual.result c.in_err-before.field-0.0 c.from_residual.ensures.1 (refused_more c.loop-depth.invariant.grown (one_true _ c.stands.result c.stands.ensures c.loop-depth-test.true) (err_at _ _ c.in_err-before.ensures c.module-next.ensures))

pub returns-in_err-list : goal.returns-in_err-list
returns-in_err-list c = answer_exit _ _ c.from_residual-in_err-list.result c.in_err-list.field-0.0 c.from_residual-in_err-list.ensures.1 (refused_memory c.in_err-list.ensures)

pub loop-depth-smaller : goal.loop-depth-smaller
loop-depth-smaller c = shorter (ok_at _ _ c.in_ok-before.ensures.1 c.module-next.ensures).read refl

pub loop-depth-preserved : goal.loop-depth-preserved
loop-depth-preserved c = listing_more c.in_ok-before.next.value _ c.loop-depth.invariant (one_true _ c.stands.result c.stands.ensures c.loop-depth-test.true) (ok_at _ _ c.in_ok-before.ensures.1 c.module-next.ensures).read (ok_at _ _ c.in_ok-before.ensures.1 c.module-next.ensures).made (rw c.in_ok-before.ensures.0 at c.in_ok-list.ensures)

pub returns : goal.returns
returns c = listing_behind c.loop-depth.invariant (one_false _ c.stands.result c.stands.ensures c.loop-depth-test.false)
