use Rattle.vs_statements.proofs.Places.{answer_exit, refused_var}
use Rattle.vs_parser.proofs.Fronts.{refused_front, refused_after_front}
use Rattle.vs_parser.proofs.Headers.{header_parameters_read}
use Rattle.vs_parser.proofs.modules.header_parameters.Goals as goal

pub returns-in_err-first : goal.returns-in_err-first
returns-in_err-first c = answer_exit _ _ c.from_residual.result c.in_err-first.field-0.0 c.from_residual.ensures.1 (refused_var (refused_front c.in_err-first.ensures))

pub returns-in_err-list : goal.returns-in_err-list
returns-in_err-list c = answer_exit _ _ c.from_residual-in_err-list.result c.in_err-list.field-0.0 c.from_residual-in_err-list.ensures.1 (refused_var (refused_after_front c.in_ok-first.ensures.read c.in_err-list.ensures))

pub returns : goal.returns
returns c = header_parameters_read c.in_ok-first.ensures c.in_ok-list.ensures
