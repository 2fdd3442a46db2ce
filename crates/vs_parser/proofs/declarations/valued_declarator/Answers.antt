use Rattle.std.specs.Prelude.{None}
use Rattle.vs_statements.proofs.Places.{answer_exit, refused_seq, refused_then, refused_missing, read_tok, read_seq, parsed, ap2}
use Rattle.vs_statements.proofs.Pairs.{ok_at, err_at}
use Rattle.vs_parser.proofs.declarations.valued_declarator.Goals as goal

pub returns-in_err-name : goal.returns-in_err-name
returns-in_err-name c = answer_exit _ _ c.from_residual.result c.in_err-name.field-0.0 c.from_residual.ensures.1 (refused_seq (refused_missing c.in_err-name.ensures))

pub returns-in_err-name-2 : goal.returns-in_err-name-2
returns-in_err-name-2 c = answer_exit _ _ c.from_residual-in_err-name-2.result c.in_err-name-2.field-0.0 c.from_residual-in_err-name-2.ensures.1 (refused_then (read_tok c.args.depth.limit c.in_ok-name.ensures.took) (err_at _ _ c.in_err-name-2.ensures c.optional_value-value.ensures))

pub returns : goal.returns
returns c = rw c.in_ok-name-2.ensures.0 (parsed (read_seq (read_tok c.args.depth.limit c.in_ok-name.ensures.took) (ok_at _ _ c.in_ok-name-2.ensures.1 c.optional_value-value.ensures).read) (ap2 (λ x y. record { name = x; addresses = None; value = y }) c.in_ok-name.ensures.made (ok_at _ _ c.in_ok-name-2.ensures.1 c.optional_value-value.ensures).made))
