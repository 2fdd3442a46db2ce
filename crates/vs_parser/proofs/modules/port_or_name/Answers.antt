use Rattle.std.proofs.Common.{sym, ◌∙◌, map}
use Rattle.vs_ast.specs.Views as view
use Rattle.vs_statements.specs.declared.error.ParseError.TheVariants.{Memory}
use Rattle.vs_statements.specs.Reading.Refused.{out_of_memory}
use Rattle.vs_statements.proofs.Places.{answer_exit, refused_memory, refused_former, refused_latter, refused_seq}
use Rattle.vs_parser.proofs.Headers.{port_behind, name_behind, map_pushed}
use Rattle.vs_statements.proofs.Pairs.{ok_at, err_at}
use Rattle.vs_parser.proofs.modules.port_or_name.Goals as goal

pub returns-in_err-before : goal.returns-in_err-before
returns-in_err-before c = answer_exit _ _ c.from_residual.result c.in_err-before.field-0.0 c.from_residual.ensures.1 (refused_former (sym c.stands_any.ensures ∙ c.if-stands_any.true) (err_at _ _ c.in_err-before.ensures c.port-next.ensures))

pub returns-in_err-next : goal.returns-in_err-next
returns-in_err-next c = answer_exit _ _ c.from_residual-in_err-next.result c.in_err-next.field-0.0 c.from_residual-in_err-next.ensures.1 (refused_memory (err_at _ _ c.in_err-next.ensures c.longer-list.ensures))

pub returns-in_ok-next : goal.returns-in_ok-next
returns-in_ok-next c = let l = rw c.in_ok-before.ensures.0 at (ok_at _ _ c.in_ok-next.ensures.1 c.longer-list.ensures) in rw (c.in_ok-next.ensures.0, map_pushed view.signals _ _ c.args.state.last l) (port_behind (map view.signals c.args.state.list.items) (view.signals c.args.state.last) (sym c.stands_any.ensures ∙ c.if-stands_any.true) (ok_at _ _ c.in_ok-before.ensures.1 c.port-next.ensures))

pub returns-in_err-before-2 : goal.returns-in_err-before-2
returns-in_err-before-2 c = answer_exit _ _ c.from_residual-in_err-before-2.result c.in_err-before-2.field-0.0 c.from_residual-in_err-before-2.ensures.1 (refused_latter (sym c.stands_any.ensures ∙ c.if-stands_any.false) (refused_seq (err_at _ _ c.in_err-before-2.ensures c.port_name-more.ensures)))

pub returns-in_err-list : goal.returns-in_err-list
returns-in_err-list c = answer_exit _ _ c.from_residual-in_err-list.result c.in_err-list.field-0.0 c.from_residual-in_err-list.ensures.1 (refused_memory (err_at _ _ c.in_err-list.ensures c.with_name-last.ensures))

pub returns-in_ok-list : goal.returns-in_ok-list
returns-in_ok-list c = let l = rw c.in_ok-before-2.ensures.0 at (ok_at _ _ c.in_ok-list.ensures.1 c.with_name-last.ensures) in rw (c.in_ok-list.ensures.0, c.in_ok-before-2.ensures.0) (name_behind (map view.signals c.args.state.list.items) (view.signals c.args.state.last) (sym c.stands_any.ensures ∙ c.if-stands_any.false) (ok_at _ _ c.in_ok-before-2.ensures.1 c.port_name-more.ensures).read (ok_at _ _ c.in_ok-before-2.ensures.1 c.port_name-more.ensures).made l)
