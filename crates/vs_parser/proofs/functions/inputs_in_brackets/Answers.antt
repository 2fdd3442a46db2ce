use Rattle.vs_statements.proofs.Places.{answer_exit, refused_seq, refused_then, refused_missing, read_tok, read_seq, parsed, ap2}
use Rattle.vs_statements.proofs.Pairs.{ok_at, err_at}
use Rattle.vs_parser.proofs.functions.inputs_in_brackets.Goals as goal

pub returns-in_err-open : goal.returns-in_err-open
returns-in_err-open c = answer_exit _ _ c.from_residual.result c.in_err-open.field-0.0 c.from_residual.ensures.1 (refused_seq (refused_missing c.in_err-open.ensures))

pub returns-in_err-list : goal.returns-in_err-list
returns-in_err-list c = answer_exit _ _ c.from_residual-in_err-list.result c.in_err-list.field-0.0 c.from_residual-in_err-list.ensures.1 (refused_then (read_tok c.args.depth.limit c.in_ok-open.ensures) (refused_seq c.in_err-list.ensures))

pub returns-in_err-list-2 : goal.returns-in_err-list-2
returns-in_err-list-2 c = answer_exit _ _ c.from_residual-in_err-list-2.result c.in_err-list-2.field-0.0 c.from_residual-in_err-list-2.ensures.1 (refused_then (read_tok c.args.depth.limit c.in_ok-open.ensures) (refused_then c.in_ok-list.ensures.read (refused_seq (refused_missing (err_at _ _ c.in_err-list-2.ensures c.take-close.ensures)))))

pub returns-in_err-list-3 : goal.returns-in_err-list-3
returns-in_err-list-3 c = answer_exit _ _ c.from_residual-in_err-list-3.result c.in_err-list-3.field-0.0 c.from_residual-in_err-list-3.ensures.1 (refused_then (read_tok c.args.depth.limit c.in_ok-open.ensures) (refused_then c.in_ok-list.ensures.read (refused_then (read_tok c.args.depth.limit (ok_at _ _ c.in_ok-list-2.ensures.1 c.take-close.ensures)) (refused_seq (refused_missing (err_at _ _ c.in_err-list-3.ensures c.take-end.ensures))))))

pub returns-in_err-list-4 : goal.returns-in_err-list-4
returns-in_err-list-4 c = answer_exit _ _ c.from_residual-in_err-list-4.result c.in_err-list-4.field-0.0 c.from_residual-in_err-list-4.ensures.1 (refused_then (read_tok c.args.depth.limit c.in_ok-open.ensures) (refused_then c.in_ok-list.ensures.read (refused_then (read_tok c.args.depth.limit (ok_at _ _ c.in_ok-list-2.ensures.1 c.take-close.ensures)) (refused_then (read_tok c.args.depth.limit (ok_at _ _ c.in_ok-list-3.ensures.1 c.take-end.ensures)) (err_at _ _ c.in_err-list-4.ensures c.variable_list-own.ensures)))))

pub returns : goal.returns
returns c = rw (c.in_ok-list-4.ensures.0, c.in_ok-list-3.ensures.0, c.in_ok-list-2.ensures.0) (parsed (read_seq (read_tok c.args.depth.limit c.in_ok-open.ensures) (read_seq c.in_ok-list.ensures.read (read_seq (read_tok c.args.depth.limit (ok_at _ _ c.in_ok-list-2.ensures.1 c.take-close.ensures)) (read_seq (read_tok c.args.depth.limit (ok_at _ _ c.in_ok-list-3.ensures.1 c.take-end.ensures)) (ok_at _ _ c.in_ok-list-4.ensures.1 c.variable_list-own.ensures).read)))) (ap2 (λ x y. (x, y)) c.in_ok-list.ensures.made (ok_at _ _ c.in_ok-list-4.ensures.1 c.variable_list-own.ensures).made))
