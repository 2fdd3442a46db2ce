use Rattle.std.proofs.Common.{sym, ap, map}
use Rattle.vs_ast.specs.Views as view
use Rattle.vs_statements.proofs.Places.{answer_exit, refused_seq, refused_then, refused_missing, refused_former, read_tok, read_eps, read_seq, read_former, read_latter, parsed, one_true, one_false}
use Rattle.vs_statements.proofs.Pairs.{ok_at, err_at}
use Rattle.vs_parser.proofs.modules.module_parameters.Goals as goal

pub returns-then-not-stands : goal.returns-then-not-stands
returns-then-not-stands c = parsed (read_latter (one_false _ c.stands.result c.stands.ensures c.if-not-stands.true) (read_eps c.args.input.now.tokens.now c.args.depth.value c.args.at c.args.depth.limit)) (ap (map view.parameters) (sym c.new.ensures.items))

pub returns-in_err-hash : goal.returns-in_err-hash
returns-in_err-hash c = answer_exit _ _ c.from_residual.result c.in_err-hash.field-0.0 c.from_residual.ensures.1 (refused_former (one_true _ c.stands.result c.stands.ensures c.if-not-stands.false) (refused_seq (refused_missing c.in_err-hash.ensures)))

pub returns-in_err-open : goal.returns-in_err-open
returns-in_err-open c = answer_exit _ _ c.from_residual-in_err-open.result c.in_err-open.field-0.0 c.from_residual-in_err-open.ensures.1 (refused_former (one_true _ c.stands.result c.stands.ensures c.if-not-stands.false) (refused_then (read_tok c.args.depth.limit c.in_ok-hash.ensures) (refused_seq (refused_missing c.in_err-open.ensures))))

pub returns-in_err-list : goal.returns-in_err-list
returns-in_err-list c = answer_exit _ _ c.from_residual-in_err-list.result c.in_err-list.field-0.0 c.from_residual-in_err-list.ensures.1 (refused_former (one_true _ c.stands.result c.stands.ensures c.if-not-stands.false) (refused_then (read_tok c.args.depth.limit c.in_ok-hash.ensures) (refused_then (read_tok c.args.depth.limit c.in_ok-open.ensures) (refused_seq c.in_err-list.ensures))))

pub returns-in_err-list-2 : goal.returns-in_err-list-2
returns-in_err-list-2 c = answer_exit _ _ c.from_residual-in_err-list-2.result c.in_err-list-2.field-0.0 c.from_residual-in_err-list-2.ensures.1 (refused_former (one_true _ c.stands.result c.stands.ensures c.if-not-stands.false) (refused_then (read_tok c.args.depth.limit c.in_ok-hash.ensures) (refused_then (read_tok c.args.depth.limit c.in_ok-open.ensures) (refused_then c.in_ok-list.ensures.read (refused_missing (err_at _ _ c.in_err-list-2.ensures c.take-close.ensures))))))

pub returns : goal.returns
returns c = rw c.in_ok-list-2.ensures.0 (parsed (read_former (one_true _ c.stands.result c.stands.ensures c.if-not-stands.false) (read_seq (read_tok c.args.depth.limit c.in_ok-hash.ensures) (read_seq (read_tok c.args.depth.limit c.in_ok-open.ensures) (read_seq c.in_ok-list.ensures.read (read_tok c.args.depth.limit (ok_at _ _ c.in_ok-list-2.ensures.1 c.take-close.ensures)))))) (c.in_ok-list.ensures.made))
