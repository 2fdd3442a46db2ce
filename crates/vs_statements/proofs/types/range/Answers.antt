use Rattle.vs_statements.proofs.Places.{answer_exit, refused_var, refused_seq, refused_then, refused_missing, read_tok, read_var, read_seq, parsed, ap2}
use Rattle.vs_statements.proofs.Pairs.{ok_at, err_at}
use Rattle.vs_statements.proofs.types.range.Goals as goal

pub returns-in_err-open : goal.returns-in_err-open
returns-in_err-open c = answer_exit _ _ c.from_residual.result c.in_err-open.field-0.0 c.from_residual.ensures.1 (refused_var (refused_seq (refused_missing c.in_err-open.ensures)))

pub returns-in_err-left : goal.returns-in_err-left
returns-in_err-left c = answer_exit _ _ c.from_residual-in_err-left.result c.in_err-left.field-0.0 c.from_residual-in_err-left.ensures.1 (refused_var (refused_then (read_tok c.args.depth.limit c.in_ok-open.ensures) (refused_seq c.in_err-left.ensures)))

pub returns-in_err-left-2 : goal.returns-in_err-left-2
returns-in_err-left-2 c = answer_exit _ _ c.from_residual-in_err-left-2.result c.in_err-left-2.field-0.0 c.from_residual-in_err-left-2.ensures.1 (refused_var (refused_then (read_tok c.args.depth.limit c.in_ok-open.ensures) (refused_then c.in_ok-left.ensures.read (refused_seq (refused_missing (err_at _ _ c.in_err-left-2.ensures c.take-colon.ensures))))))

pub returns-in_err-left-3 : goal.returns-in_err-left-3
returns-in_err-left-3 c = answer_exit _ _ c.from_residual-in_err-left-3.result c.in_err-left-3.field-0.0 c.from_residual-in_err-left-3.ensures.1 (refused_var (refused_then (read_tok c.args.depth.limit c.in_ok-open.ensures) (refused_then c.in_ok-left.ensures.read (refused_then (read_tok c.args.depth.limit (ok_at _ _ c.in_ok-left-2.ensures.1 c.take-colon.ensures)) (refused_seq (err_at _ _ c.in_err-left-3.ensures c.expression-right.ensures))))))

pub returns-in_err-ends : goal.returns-in_err-ends
returns-in_err-ends c = answer_exit _ _ c.from_residual-in_err-ends.result c.in_err-ends.field-0.0 c.from_residual-in_err-ends.ensures.1 (refused_var (refused_then (read_tok c.args.depth.limit c.in_ok-open.ensures) (refused_then c.in_ok-left.ensures.read (refused_then (read_tok c.args.depth.limit (ok_at _ _ c.in_ok-left-2.ensures.1 c.take-colon.ensures)) (refused_then (ok_at _ _ c.in_ok-left-3.ensures.1 c.expression-right.ensures).read (refused_missing (err_at _ _ c.in_err-ends.ensures c.take-close.ensures)))))))

pub returns : goal.returns
returns c = rw (c.in_ok-ends.ensures.0, c.in_ok-left-3.ensures.0, c.in_ok-left-2.ensures.0) (parsed (read_var (read_seq (read_tok c.args.depth.limit c.in_ok-open.ensures) (read_seq c.in_ok-left.ensures.read (read_seq (read_tok c.args.depth.limit (ok_at _ _ c.in_ok-left-2.ensures.1 c.take-colon.ensures)) (read_seq (ok_at _ _ c.in_ok-left-3.ensures.1 c.expression-right.ensures).read (read_tok c.args.depth.limit (ok_at _ _ c.in_ok-ends.ensures.1 c.take-close.ensures))))))) (ap2 (λ x y. record { bracket = c.args.at; left = x; right = y }) c.in_ok-left.ensures.made (ok_at _ _ c.in_ok-left-3.ensures.1 c.expression-right.ensures).made))
