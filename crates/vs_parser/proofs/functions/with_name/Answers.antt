use Rattle.std.proofs.Common.{refl, ap}
use Rattle.vs_ast.specs.Views as view
use Rattle.vs_statements.specs.declared.error.ParseError.TheVariants.{Memory}
use Rattle.vs_parser.proofs.Headers.{map_pushed}
use Rattle.vs_statements.proofs.Places.{answer_exit}
use Rattle.vs_statements.proofs.Pairs.{ok_at, err_at}
use Rattle.vs_parser.proofs.functions.with_name.Goals as goal

pub returns-in_err-value_type : goal.returns-in_err-value_type
returns-in_err-value_type c = answer_exit _ _ c.from_residual.result c.in_err-value_type.field-0.0 c.from_residual.ensures.1 (err_at _ _ c.in_err-value_type.ensures c.longer-names.ensures)

pub returns : goal.returns
returns c = rw c.in_ok-value_type.ensures.0 (ap (λ z. record (view.variables c.args.declared) { names = z }) (map_pushed view.name _ _ c.args.name (ok_at _ _ c.in_ok-value_type.ensures.1 c.longer-names.ensures)))
