use Rattle.std.proofs.Common.{ap}
use Rattle.vs_grammar.specs.Trees as tree
use Rattle.vs_statements.proofs.Places.{answer_exit, refused_var, refused_seq, refused_then, refused_missing, read_tok, read_var, read_seq, parsed}
use Rattle.vs_statements.proofs.Pairs.{ok_at, err_at}
use Rattle.vs_parser.proofs.items.integers.Goals as goal

pub returns-in_err-word : goal.returns-in_err-word
returns-in_err-word c = answer_exit _ _ c.from_residual.result c.in_err-word.field-0.0 c.from_residual.ensures.1 (refused_seq (refused_missing c.in_err-word.ensures))

pub returns-in_err-names : goal.returns-in_err-names
returns-in_err-names c = answer_exit _ _ c.from_residual-in_err-names.result c.in_err-names.field-0.0 c.from_residual-in_err-names.ensures.1 (refused_then (read_tok c.args.depth.limit c.in_ok-word.ensures) (refused_seq (refused_var c.in_err-names.ensures)))

pub returns-in_err-names-2 : goal.returns-in_err-names-2
returns-in_err-names-2 c = answer_exit _ _ c.from_residual-in_err-names-2.result c.in_err-names-2.field-0.0 c.from_residual-in_err-names-2.ensures.1 (refused_then (read_tok c.args.depth.limit c.in_ok-word.ensures) (refused_then (read_var c.in_ok-names.ensures.read) (refused_missing (err_at _ _ c.in_err-names-2.ensures c.take-end.ensures))))

pub returns : goal.returns
returns c = rw c.in_ok-names-2.ensures.0 (parsed (read_seq (read_tok c.args.depth.limit c.in_ok-word.ensures) (read_seq (read_var c.in_ok-names.ensures.read) (read_tok c.args.depth.limit (ok_at _ _ c.in_ok-names-2.ensures.1 c.take-end.ensures)))) (ap (λ z. tree.IntegersItem c.args.at z) c.in_ok-names.ensures.made))
