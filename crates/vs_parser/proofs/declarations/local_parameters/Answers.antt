use Rattle.std.proofs.Common.{true}
use Rattle.vs_grammar.specs.Trees as tree
use Rattle.vs_statements.proofs.Places.{answer_exit, refused_seq, refused_then, refused_missing, read_tok, read_seq, parsed, ap2}
use Rattle.vs_statements.proofs.Pairs.{ok_at, err_at}
use Rattle.vs_parser.proofs.declarations.local_parameters.Goals as goal

pub returns-in_err-word : goal.returns-in_err-word
returns-in_err-word c = answer_exit _ _ c.from_residual.result c.in_err-word.field-0.0 c.from_residual.ensures.1 (refused_seq (refused_missing c.in_err-word.ensures))

pub returns-in_err-value_type : goal.returns-in_err-value_type
returns-in_err-value_type c = answer_exit _ _ c.from_residual-in_err-value_type.result c.in_err-value_type.field-0.0 c.from_residual-in_err-value_type.ensures.1 (refused_then (read_tok c.args.depth.limit c.in_ok-word.ensures) (refused_seq c.in_err-value_type.ensures))

pub returns-in_err-value_type-2 : goal.returns-in_err-value_type-2
returns-in_err-value_type-2 c = answer_exit _ _ c.from_residual-in_err-value_type-2.result c.in_err-value_type-2.field-0.0 c.from_residual-in_err-value_type-2.ensures.1 (refused_then (read_tok c.args.depth.limit c.in_ok-word.ensures) (refused_then c.in_ok-value_type.ensures.read (refused_seq (err_at _ _ c.in_err-value_type-2.ensures c.settings-settings.ensures))))

pub returns-in_err-declared : goal.returns-in_err-declared
returns-in_err-declared c = answer_exit _ _ c.from_residual-in_err-declared.result c.in_err-declared.field-0.0 c.from_residual-in_err-declared.ensures.1 (refused_then (read_tok c.args.depth.limit c.in_ok-word.ensures) (refused_then c.in_ok-value_type.ensures.read (refused_then (ok_at _ _ c.in_ok-value_type-2.ensures.1 c.settings-settings.ensures).read (refused_missing (err_at _ _ c.in_err-declared.ensures c.take-end.ensures)))))

pub returns : goal.returns
returns c = rw (c.in_ok-declared.ensures.0, c.in_ok-value_type-2.ensures.0) (parsed (read_seq (read_tok c.args.depth.limit c.in_ok-word.ensures) (read_seq c.in_ok-value_type.ensures.read (read_seq (ok_at _ _ c.in_ok-value_type-2.ensures.1 c.settings-settings.ensures).read (read_tok c.args.depth.limit (ok_at _ _ c.in_ok-declared.ensures.1 c.take-end.ensures))))) (ap2 (λ y l. tree.ParametersItem (record { place = c.args.at; is_local = true; value_type = y; settings = l })) c.in_ok-value_type.ensures.made (ok_at _ _ c.in_ok-value_type-2.ensures.1 c.settings-settings.ensures).made))
