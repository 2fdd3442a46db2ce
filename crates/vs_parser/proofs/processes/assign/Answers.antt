use Rattle.vs_statements.proofs.Places.{answer_exit, refused_seq, refused_then, refused_missing, read_tok, read_seq, parsed, ap2}
use Rattle.vs_statements.proofs.Pairs.{ok_at, err_at}
use Rattle.vs_parser.proofs.processes.assign.Goals as goal

pub returns-in_err-target : goal.returns-in_err-target
returns-in_err-target c = answer_exit _ _ c.from_residual.result c.in_err-target.field-0.0 c.from_residual.ensures.1 (refused_seq c.in_err-target.ensures)

pub returns-in_err-target-2 : goal.returns-in_err-target-2
returns-in_err-target-2 c = answer_exit _ _ c.from_residual-in_err-target-2.result c.in_err-target-2.field-0.0 c.from_residual-in_err-target-2.ensures.1 (refused_then c.in_ok-target.ensures.read (refused_seq (refused_missing (err_at _ _ c.in_err-target-2.ensures c.take-sign.ensures))))

pub returns-in_err-target-3 : goal.returns-in_err-target-3
returns-in_err-target-3 c = answer_exit _ _ c.from_residual-in_err-target-3.result c.in_err-target-3.field-0.0 c.from_residual-in_err-target-3.ensures.1 (refused_then c.in_ok-target.ensures.read (refused_then (read_tok c.args.depth.limit (ok_at _ _ c.in_ok-target-2.ensures.1 c.take-sign.ensures)) (err_at _ _ c.in_err-target-3.ensures c.expression-value.ensures)))

pub returns : goal.returns
returns c = rw (c.in_ok-target-3.ensures.0, c.in_ok-target-2.ensures.0) (parsed (read_seq c.in_ok-target.ensures.read (read_seq (read_tok c.args.depth.limit (ok_at _ _ c.in_ok-target-2.ensures.1 c.take-sign.ensures)) (ok_at _ _ c.in_ok-target-3.ensures.1 c.expression-value.ensures).read)) (ap2 (λ x y. record { target = x; e = y }) c.in_ok-target.ensures.made (ok_at _ _ c.in_ok-target-3.ensures.1 c.expression-value.ensures).made))
