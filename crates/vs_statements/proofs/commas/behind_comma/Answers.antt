use Rattle.std.proofs.Common.{rules}
use Rattle.vs_statements.proofs.Places.{answer_exit, answer_more, refused_seq, refused_then, refused_missing, read_tok, read_seq, parsed}
use Rattle.vs_statements.proofs.commas.behind_comma.Goals as goal

pub returns-in_err-comma : goal.returns-in_err-comma
returns-in_err-comma g c = answer_exit _ _ c.from_residual.result c.in_err-comma.field-0.0 c.from_residual.ensures.1 (refused_seq (refused_missing c.in_err-comma.ensures))

pub returns : goal.returns
returns g c = answer_more c.read.result (c.requires.reads c.in_ok-comma.comma _ (search rules) c.read.ensures) (λ f w. parsed (read_seq (read_tok c.args.depth.limit c.in_ok-comma.ensures) w.read) w.made) (λ e w. refused_then (read_tok c.args.depth.limit c.in_ok-comma.ensures) w)
