use Rattle.vs_statements.proofs.Places.{answer_exit, refused_var, refused_seq, refused_then, refused_missing, read_tok, read_var, read_seq, parsed, ap4}
use Rattle.vs_statements.proofs.Pairs.{ok_at, err_at}
use Rattle.vs_parser.specs.Functions.{Parts}
use Rattle.vs_parser.proofs.functions.function.Goals as goal

pub returns-in_err-word : goal.returns-in_err-word
returns-in_err-word c = answer_exit _ _ c.from_residual.result c.in_err-word.field-0.0 c.from_residual.ensures.1 (refused_var (refused_seq (refused_missing c.in_err-word.ensures)))

pub returns-in_err-value_type : goal.returns-in_err-value_type
returns-in_err-value_type c = answer_exit _ _ c.from_residual-in_err-value_type.result c.in_err-value_type.field-0.0 c.from_residual-in_err-value_type.ensures.1 (refused_var (refused_then (read_tok c.args.depth.limit c.in_ok-word.ensures) (refused_seq c.in_err-value_type.ensures)))

pub returns-in_err-value_type-2 : goal.returns-in_err-value_type-2
returns-in_err-value_type-2 c = answer_exit _ _ c.from_residual-in_err-value_type-2.result c.in_err-value_type-2.field-0.0 c.from_residual-in_err-value_type-2.ensures.1 (refused_var (refused_then (read_tok c.args.depth.limit c.in_ok-word.ensures) (refused_then c.in_ok-value_type.ensures.read (refused_seq (refused_missing (err_at _ _ c.in_err-value_type-2.ensures c.identifier-name.ensures))))))

pub returns-in_err-named : goal.returns-in_err-named
returns-in_err-named c = answer_exit _ _ c.from_residual-in_err-named.result c.in_err-named.field-0.0 c.from_residual-in_err-named.ensures.1 (refused_var (refused_then (read_tok c.args.depth.limit c.in_ok-word.ensures) (refused_then c.in_ok-value_type.ensures.read (refused_then (read_tok c.args.depth.limit (ok_at _ _ c.in_ok-value_type-2.ensures.1 c.identifier-name.ensures).took) (refused_seq (err_at _ _ c.in_err-named.ensures c.function_head-parts.ensures))))))

pub returns-in_err-head : goal.returns-in_err-head
returns-in_err-head c = answer_exit _ _ c.from_residual-in_err-head.result c.in_err-head.field-0.0 c.from_residual-in_err-head.ensures.1 (refused_var (refused_then (read_tok c.args.depth.limit c.in_ok-word.ensures) (refused_then c.in_ok-value_type.ensures.read (refused_then (read_tok c.args.depth.limit (ok_at _ _ c.in_ok-value_type-2.ensures.1 c.identifier-name.ensures).took) (refused_then (ok_at _ _ c.in_ok-named.ensures.1 c.function_head-parts.ensures).read (refused_seq (err_at _ _ c.in_err-head.ensures c.statement-body.ensures)))))))

pub returns-in_err-all : goal.returns-in_err-all
returns-in_err-all c = answer_exit _ _ c.from_residual-in_err-all.result c.in_err-all.field-0.0 c.from_residual-in_err-all.ensures.1 (refused_var (refused_then (read_tok c.args.depth.limit c.in_ok-word.ensures) (refused_then c.in_ok-value_type.ensures.read (refused_then (read_tok c.args.depth.limit (ok_at _ _ c.in_ok-value_type-2.ensures.1 c.identifier-name.ensures).took) (refused_then (ok_at _ _ c.in_ok-named.ensures.1 c.function_head-parts.ensures).read (refused_then (ok_at _ _ c.in_ok-head.ensures.1 c.statement-body.ensures).read (refused_missing (err_at _ _ c.in_err-all.ensures c.take-end.ensures))))))))

pub returns : goal.returns
returns c = rw (c.in_ok-all.ensures.0, c.in_ok-head.ensures.0, c.in_ok-named.ensures.0, c.in_ok-value_type-2.ensures.0) (parsed (read_var (read_seq (read_tok c.args.depth.limit c.in_ok-word.ensures) (read_seq c.in_ok-value_type.ensures.read (read_seq (read_tok c.args.depth.limit (ok_at _ _ c.in_ok-value_type-2.ensures.1 c.identifier-name.ensures).took) (read_seq (ok_at _ _ c.in_ok-named.ensures.1 c.function_head-parts.ensures).read (read_seq (ok_at _ _ c.in_ok-head.ensures.1 c.statement-body.ensures).read (read_tok c.args.depth.limit (ok_at _ _ c.in_ok-all.ensures.1 c.take-end.ensures)))))))) (ap4 (λ y n (p : Parts) s. record { place = c.args.at; name = n; value_type = y; inputs = p.0; variables = p.1; statement = s }) c.in_ok-value_type.ensures.made (ok_at _ _ c.in_ok-value_type-2.ensures.1 c.identifier-name.ensures).made (ok_at _ _ c.in_ok-named.ensures.1 c.function_head-parts.ensures).made (ok_at _ _ c.in_ok-head.ensures.1 c.statement-body.ensures).made))
