use Rattle.vs_parser.proofs.Ends.{text_fault, rest_fault, text_read}
use Rattle.vs_statements.proofs.Places.{answer_exit}
use Rattle.vs_parser.proofs.whole.read_all.Goals as goal

pub returns-in_err-found : goal.returns-in_err-found
returns-in_err-found c = answer_exit _ _ c.from_residual.result c.in_err-found.field-0.0 c.from_residual.ensures.1 (text_fault c.requires.kept c.in_err-found.ensures)

pub returns-then-found-input : goal.returns-then-found-input
returns-then-found-input c = rest_fault c.requires.kept c.in_ok-found.ensures c.if-found-input.true

pub returns : goal.returns
returns c = text_read c.requires.kept c.in_ok-found.ensures c.if-found-input.false
