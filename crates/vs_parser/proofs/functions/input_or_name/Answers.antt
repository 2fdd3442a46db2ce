use Rattle.std.proofs.Common.{map}
use Rattle.vs_ast.specs.Views as view
use Rattle.vs_statements.specs.declared.error.ParseError.TheVariants.{Memory}
use Rattle.vs_statements.specs.Reading.Refused.{out_of_memory}
use Rattle.vs_statements.proofs.Places.{answer_exit, refused_memory, refused_missing, refused_former, refused_latter, read_tok, read_former, read_latter, one_true, one_false}
use Rattle.vs_parser.proofs.FunctionHeads.{input_behind, name_behind}
use Rattle.vs_parser.proofs.Headers.{map_pushed}
use Rattle.vs_statements.proofs.Pairs.{ok_at, err_at}
use Rattle.vs_parser.proofs.functions.input_or_name.Goals as goal

pub returns-in_err-before : goal.returns-in_err-before
returns-in_err-before c = answer_exit _ _ c.from_residual.result c.in_err-before.field-0.0 c.from_residual.ensures.1 (refused_former (one_true _ c.stands.result c.stands.ensures c.if-stands.true) (err_at _ _ c.in_err-before.ensures c.function_input-next.ensures))

pub returns-in_err-next : goal.returns-in_err-next
returns-in_err-next c = answer_exit _ _ c.from_residual-in_err-next.result c.in_err-next.field-0.0 c.from_residual-in_err-next.ensures.1 (refused_memory (err_at _ _ c.in_err-next.ensures c.longer-list.ensures))

pub returns-in_ok-next : goal.returns-in_ok-next
returns-in_ok-next c = let l = rw c.in_ok-before.ensures.0 at (ok_at _ _ c.in_ok-next.ensures.1 c.longer-list.ensures) in rw (c.in_ok-next.ensures.0, map_pushed view.variables _ _ c.args.state.last l) (input_behind (map view.variables c.args.state.list.items) (view.variables c.args.state.last) (ok_at _ _ c.in_ok-before.ensures.1 c.function_input-next.ensures) (read_former (one_true _ c.stands.result c.stands.ensures c.if-stands.true) (ok_at _ _ c.in_ok-before.ensures.1 c.function_input-next.ensures).read))

pub returns-in_err-before-2 : goal.returns-in_err-before-2
returns-in_err-before-2 c = answer_exit _ _ c.from_residual-in_err-before-2.result c.in_err-before-2.field-0.0 c.from_residual-in_err-before-2.ensures.1 (refused_latter (one_false _ c.stands.result c.stands.ensures c.if-stands.false) (refused_missing (err_at _ _ c.in_err-before-2.ensures c.identifier-more.ensures)))

pub returns-in_err-list : goal.returns-in_err-list
returns-in_err-list c = answer_exit _ _ c.from_residual-in_err-list.result c.in_err-list.field-0.0 c.from_residual-in_err-list.ensures.1 (refused_memory (err_at _ _ c.in_err-list.ensures c.with_name-last.ensures))

pub returns-in_ok-list : goal.returns-in_ok-list
returns-in_ok-list c = let l = rw c.in_ok-before-2.ensures.0 at (ok_at _ _ c.in_ok-list.ensures.1 c.with_name-last.ensures) in rw (c.in_ok-list.ensures.0, c.in_ok-before-2.ensures.0) (name_behind (map view.variables c.args.state.list.items) (view.variables c.args.state.last) (read_latter (one_false _ c.stands.result c.stands.ensures c.if-stands.false) (read_tok c.args.depth.limit (ok_at _ _ c.in_ok-before-2.ensures.1 c.identifier-more.ensures).took)) (ok_at _ _ c.in_ok-before-2.ensures.1 c.identifier-more.ensures).made l)
