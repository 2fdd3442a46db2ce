use Rattle.std.proofs.Common.{ap}
use Rattle.std.specs.Prelude.{None}
use Rattle.vs_statements.proofs.Places.{answer_exit, refused_missing, read_tok, parsed}
use Rattle.vs_parser.proofs.declarations.plain_declarator.Goals as goal

pub returns-in_err-name : goal.returns-in_err-name
returns-in_err-name c = answer_exit _ _ c.from_residual.result c.in_err-name.field-0.0 c.from_residual.ensures.1 (refused_missing c.in_err-name.ensures)

pub returns : goal.returns
returns c = parsed (read_tok c.args.depth.limit c.in_ok-name.ensures.took) (ap (λ z. record { name = z; addresses = None; value = None }) c.in_ok-name.ensures.made)
