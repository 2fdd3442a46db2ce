use Rattle.vs_grammar.specs.Trees as tree
use Rattle.vs_statements.proofs.Places.{answer_exit, refused_then, read_seq, parsed, ap2}
use Rattle.vs_statements.proofs.types.range_type.Goals as goal

pub returns-in_err-range : goal.returns-in_err-range
returns-in_err-range c = answer_exit _ _ c.from_residual.result c.in_err-range.field-0.0 c.from_residual.ensures.1 (refused_then c.optional-signed.ensures.read c.in_err-range.ensures)

pub returns : goal.returns
returns c = parsed (read_seq c.optional-signed.ensures.read c.in_ok-range.ensures.read) (ap2 tree.RangeType c.optional-signed.ensures.made c.in_ok-range.ensures.made)
