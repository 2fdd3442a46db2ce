use Rattle.vs_statements.proofs.Places.{answer_exit, refused_var, refused_seq, refused_then, read_var, read_seq, parsed}
use Rattle.vs_parser.proofs.functions.inputs.Goals as goal

pub returns-in_err-first : goal.returns-in_err-first
returns-in_err-first c = answer_exit _ _ c.from_residual.result c.in_err-first.field-0.0 c.from_residual.ensures.1 (refused_var (refused_seq c.in_err-first.ensures))

pub returns-in_err-list : goal.returns-in_err-list
returns-in_err-list c = answer_exit _ _ c.from_residual-in_err-list.result c.in_err-list.field-0.0 c.from_residual-in_err-list.ensures.1 (refused_var (refused_then c.in_ok-first.ensures.read c.in_err-list.ensures))

pub returns : goal.returns
returns c = parsed (read_var (read_seq c.in_ok-first.ensures.read c.in_ok-list.ensures.read)) (c.in_ok-list.ensures.made c.in_ok-first.ensures.tree c.in_ok-first.ensures.made)
