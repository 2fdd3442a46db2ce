use Rattle.std.proofs.Common.{map}
use Rattle.vs_ast.specs.Views as view
use Rattle.vs_statements.specs.declared.error.ParseError.TheVariants.{Memory}
use Rattle.vs_statements.specs.Reading.Refused.{out_of_memory}
use Rattle.vs_statements.proofs.Places.{answer_exit, refused_memory, refused_former, refused_latter, read_former, read_latter, one_true, one_false}
use Rattle.vs_parser.proofs.Headers.{declaration_behind, setting_behind, map_pushed}
use Rattle.vs_statements.proofs.Pairs.{ok_at, err_at}
use Rattle.vs_parser.proofs.modules.parameter_or_setting.Goals as goal

pub returns-in_err-before : goal.returns-in_err-before
returns-in_err-before c = answer_exit _ _ c.from_residual.result c.in_err-before.field-0.0 c.from_residual.ensures.1 (refused_former (one_true _ c.stands.result c.stands.ensures c.if-stands.true) (err_at _ _ c.in_err-before.ensures c.next_declaration-next.ensures))

pub returns-in_err-next : goal.returns-in_err-next
returns-in_err-next c = answer_exit _ _ c.from_residual-in_err-next.result c.in_err-next.field-0.0 c.from_residual-in_err-next.ensures.1 (refused_memory (err_at _ _ c.in_err-next.ensures c.longer-list.ensures))

pub returns-in_ok-next : goal.returns-in_ok-next
returns-in_ok-next c = let l = rw c.in_ok-before.ensures.0 at (ok_at _ _ c.in_ok-next.ensures.1 c.longer-list.ensures) in rw (c.in_ok-next.ensures.0, map_pushed view.parameters _ _ c.args.state.last l) (declaration_behind (map view.parameters c.args.state.list.items) (view.parameters c.args.state.last) (ok_at _ _ c.in_ok-before.ensures.1 c.next_declaration-next.ensures).tree (read_former (one_true _ c.stands.result c.stands.ensures c.if-stands.true) (ok_at _ _ c.in_ok-before.ensures.1 c.next_declaration-next.ensures).read) (ok_at _ _ c.in_ok-before.ensures.1 c.next_declaration-next.ensures).made)

pub returns-in_err-before-2 : goal.returns-in_err-before-2
returns-in_err-before-2 c = answer_exit _ _ c.from_residual-in_err-before-2.result c.in_err-before-2.field-0.0 c.from_residual-in_err-before-2.ensures.1 (refused_latter (one_false _ c.stands.result c.stands.ensures c.if-stands.false) (err_at _ _ c.in_err-before-2.ensures c.setting-more.ensures))

pub returns-in_err-list : goal.returns-in_err-list
returns-in_err-list c = answer_exit _ _ c.from_residual-in_err-list.result c.in_err-list.field-0.0 c.from_residual-in_err-list.ensures.1 (refused_memory (err_at _ _ c.in_err-list.ensures c.with_setting-last.ensures))

pub returns-in_ok-list : goal.returns-in_ok-list
returns-in_ok-list c = let l = rw c.in_ok-before-2.ensures.0 at (ok_at _ _ c.in_ok-list.ensures.1 c.with_setting-last.ensures) in rw (c.in_ok-list.ensures.0, c.in_ok-before-2.ensures.0) (setting_behind (map view.parameters c.args.state.list.items) (view.parameters c.args.state.last) (read_latter (one_false _ c.stands.result c.stands.ensures c.if-stands.false) (ok_at _ _ c.in_ok-before-2.ensures.1 c.setting-more.ensures).read) (ok_at _ _ c.in_ok-before-2.ensures.1 c.setting-more.ensures).made l)
