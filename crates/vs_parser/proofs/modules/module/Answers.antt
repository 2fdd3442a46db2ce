use Rattle.vs_statements.proofs.Places.{answer_exit, refused_var, refused_seq, refused_then, refused_missing, read_tok, read_var, read_seq, parsed, ap4}
use Rattle.vs_statements.proofs.Pairs.{ok_at, err_at}
use Rattle.vs_parser.proofs.modules.module.Goals as goal

pub returns-in_err-word : goal.returns-in_err-word
returns-in_err-word c = answer_exit _ _ c.from_residual.result c.in_err-word.field-0.0 c.from_residual.ensures.1 (refused_var (refused_seq (refused_missing c.in_err-word.ensures)))

pub returns-in_err-name : goal.returns-in_err-name
returns-in_err-name c = answer_exit _ _ c.from_residual-in_err-name.result c.in_err-name.field-0.0 c.from_residual-in_err-name.ensures.1 (refused_var (refused_then (read_tok c.args.depth.limit c.in_ok-word.ensures) (refused_seq (refused_missing c.in_err-name.ensures))))

pub returns-in_err-name-2 : goal.returns-in_err-name-2
returns-in_err-name-2 c = answer_exit _ _ c.from_residual-in_err-name-2.result c.in_err-name-2.field-0.0 c.from_residual-in_err-name-2.ensures.1 (refused_var (refused_then (read_tok c.args.depth.limit c.in_ok-word.ensures) (refused_then (read_tok c.args.depth.limit c.in_ok-name.ensures.took) (refused_seq (err_at _ _ c.in_err-name-2.ensures c.module_parameters-parameters.ensures)))))

pub returns-in_err-named : goal.returns-in_err-named
returns-in_err-named c = answer_exit _ _ c.from_residual-in_err-named.result c.in_err-named.field-0.0 c.from_residual-in_err-named.ensures.1 (refused_var (refused_then (read_tok c.args.depth.limit c.in_ok-word.ensures) (refused_then (read_tok c.args.depth.limit c.in_ok-name.ensures.took) (refused_then (ok_at _ _ c.in_ok-name-2.ensures.1 c.module_parameters-parameters.ensures).read (refused_seq (err_at _ _ c.in_err-named.ensures c.header-header.ensures))))))

pub returns-in_err-head : goal.returns-in_err-head
returns-in_err-head c = answer_exit _ _ c.from_residual-in_err-head.result c.in_err-head.field-0.0 c.from_residual-in_err-head.ensures.1 (refused_var (refused_then (read_tok c.args.depth.limit c.in_ok-word.ensures) (refused_then (read_tok c.args.depth.limit c.in_ok-name.ensures.took) (refused_then (ok_at _ _ c.in_ok-name-2.ensures.1 c.module_parameters-parameters.ensures).read (refused_then (ok_at _ _ c.in_ok-named.ensures.1 c.header-header.ensures).read (refused_seq (refused_missing (err_at _ _ c.in_err-head.ensures c.take-semicolon.ensures))))))))

pub returns-in_err-head-2 : goal.returns-in_err-head-2
returns-in_err-head-2 c = answer_exit _ _ c.from_residual-in_err-head-2.result c.in_err-head-2.field-0.0 c.from_residual-in_err-head-2.ensures.1 (refused_var (refused_then (read_tok c.args.depth.limit c.in_ok-word.ensures) (refused_then (read_tok c.args.depth.limit c.in_ok-name.ensures.took) (refused_then (ok_at _ _ c.in_ok-name-2.ensures.1 c.module_parameters-parameters.ensures).read (refused_then (ok_at _ _ c.in_ok-named.ensures.1 c.header-header.ensures).read (refused_then (read_tok c.args.depth.limit (ok_at _ _ c.in_ok-head.ensures.1 c.take-semicolon.ensures)) (refused_seq (err_at _ _ c.in_err-head-2.ensures c.items-items.ensures))))))))

pub returns-in_err-parts : goal.returns-in_err-parts
returns-in_err-parts c = answer_exit _ _ c.from_residual-in_err-parts.result c.in_err-parts.field-0.0 c.from_residual-in_err-parts.ensures.1 (refused_var (refused_then (read_tok c.args.depth.limit c.in_ok-word.ensures) (refused_then (read_tok c.args.depth.limit c.in_ok-name.ensures.took) (refused_then (ok_at _ _ c.in_ok-name-2.ensures.1 c.module_parameters-parameters.ensures).read (refused_then (ok_at _ _ c.in_ok-named.ensures.1 c.header-header.ensures).read (refused_then (read_tok c.args.depth.limit (ok_at _ _ c.in_ok-head.ensures.1 c.take-semicolon.ensures)) (refused_then (ok_at _ _ c.in_ok-head-2.ensures.1 c.items-items.ensures).read (refused_missing (err_at _ _ c.in_err-parts.ensures c.take-end.ensures)))))))))

pub returns : goal.returns
returns c = rw (c.in_ok-parts.ensures.0, c.in_ok-head-2.ensures.0, c.in_ok-head.ensures.0, c.in_ok-named.ensures.0, c.in_ok-name-2.ensures.0) (parsed (read_var (read_seq (read_tok c.args.depth.limit c.in_ok-word.ensures) (read_seq (read_tok c.args.depth.limit c.in_ok-name.ensures.took) (read_seq (ok_at _ _ c.in_ok-name-2.ensures.1 c.module_parameters-parameters.ensures).read (read_seq (ok_at _ _ c.in_ok-named.ensures.1 c.header-header.ensures).read (read_seq (read_tok c.args.depth.limit (ok_at _ _ c.in_ok-head.ensures.1 c.take-semicolon.ensures)) (read_seq (ok_at _ _ c.in_ok-head-2.ensures.1 c.items-items.ensures).read (read_tok c.args.depth.limit (ok_at _ _ c.in_ok-parts.ensures.1 c.take-end.ensures))))))))) (ap4 (λ n q p l. record { place = c.args.at; name = n; parameters = q; header = p; items = l }) c.in_ok-name.ensures.made (ok_at _ _ c.in_ok-name-2.ensures.1 c.module_parameters-parameters.ensures).made (ok_at _ _ c.in_ok-named.ensures.1 c.header-header.ensures).made (ok_at _ _ c.in_ok-head-2.ensures.1 c.items-items.ensures).made))
