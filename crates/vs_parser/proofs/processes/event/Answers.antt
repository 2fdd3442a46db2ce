use Rattle.vs_statements.proofs.Places.{answer_exit, refused_var, refused_seq, refused_then, refused_missing, read_tok, read_var, read_seq, parsed, ap2}
use Rattle.vs_parser.proofs.processes.event.Goals as goal

pub returns-in_err-edge : goal.returns-in_err-edge
returns-in_err-edge c = answer_exit _ _ c.from_residual.result c.in_err-edge.field-0.0 c.from_residual.ensures.1 (refused_var (refused_seq c.in_err-edge.ensures))

pub returns-in_err-name : goal.returns-in_err-name
returns-in_err-name c = answer_exit _ _ c.from_residual-in_err-name.result c.in_err-name.field-0.0 c.from_residual-in_err-name.ensures.1 (refused_var (refused_then c.in_ok-edge.ensures.read (refused_missing c.in_err-name.ensures)))

pub returns : goal.returns
returns c = parsed (read_var (read_seq c.in_ok-edge.ensures.read (read_tok c.args.depth.limit c.in_ok-name.ensures.took))) (ap2 (λ x y. record { edge = x; name = y }) c.in_ok-edge.ensures.made c.in_ok-name.ensures.made)
