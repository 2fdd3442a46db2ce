use Rattle.std.proofs.Common.{sym, ◌∙◌, ap, ◌∷◌, ◌++◌, map}
use Rattle.vs_ast.specs.Views as view
use Rattle.vs_statements.proofs.Places.{answer_exit, refused_memory, refused_var, refused_seq, refused_then, refused_missing, read_tok, read_var, read_seq, ap2}
use Rattle.vs_parser.specs.Functions as part
use Rattle.vs_parser.proofs.FunctionHeads.{input_read}
use Rattle.vs_statements.proofs.Pairs.{ok_at, err_at}
use Rattle.vs_parser.proofs.functions.function_input.Goals as goal

pub returns-in_err-word : goal.returns-in_err-word
returns-in_err-word c = answer_exit _ _ c.from_residual.result c.in_err-word.field-0.0 c.from_residual.ensures.1 (refused_var (refused_seq (refused_missing c.in_err-word.ensures)))

pub returns-in_err-value_type : goal.returns-in_err-value_type
returns-in_err-value_type c = answer_exit _ _ c.from_residual-in_err-value_type.result c.in_err-value_type.field-0.0 c.from_residual-in_err-value_type.ensures.1 (refused_var (refused_then (read_tok c.args.depth.limit c.in_ok-word.ensures) (refused_seq c.in_err-value_type.ensures)))

pub returns-in_err-value_type-2 : goal.returns-in_err-value_type-2
returns-in_err-value_type-2 c = answer_exit _ _ c.from_residual-in_err-value_type-2.result c.in_err-value_type-2.field-0.0 c.from_residual-in_err-value_type-2.ensures.1 (refused_var (refused_then (read_tok c.args.depth.limit c.in_ok-word.ensures) (refused_then c.in_ok-value_type.ensures.read (refused_missing (err_at _ _ c.in_err-value_type-2.ensures c.identifier-name.ensures)))))

pub returns-in_err-value_type-3 : goal.returns-in_err-value_type-3
returns-in_err-value_type-3 c = answer_exit _ _ c.from_residual-in_err-value_type-3.result c.in_err-value_type-3.field-0.0 c.from_residual-in_err-value_type-3.ensures.1 (refused_memory (err_at _ _ c.in_err-value_type-3.ensures c.one-names.ensures))

pub returns : goal.returns
returns c = rw (c.in_ok-value_type-3.ensures.0, c.in_ok-value_type-2.ensures.0) (input_read (read_var (read_seq (read_tok c.args.depth.limit c.in_ok-word.ensures) (read_seq c.in_ok-value_type.ensures.read (read_tok c.args.depth.limit (ok_at _ _ c.in_ok-value_type-2.ensures.1 c.identifier-name.ensures).took)))) (λ names. ap2 (λ y n. record { place = c.args.at; value_type = y; names = n ∷ names }) c.in_ok-value_type.ensures.made (ok_at _ _ c.in_ok-value_type-2.ensures.1 c.identifier-name.ensures).made ∙ ap (λ z. part.variables_with c.args.at (view.value_type c.in_ok-value_type.value_type.value) (map view.name z ++ names)) (sym (ok_at _ _ c.in_ok-value_type-3.ensures.1 c.one-names.ensures))))
