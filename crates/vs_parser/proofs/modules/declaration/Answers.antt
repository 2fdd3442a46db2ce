use Rattle.std.proofs.Common.{refl, ap, map}
use Rattle.vs_ast.specs.Views as view
use Rattle.vs_statements.specs.declared.error.ParseError.TheVariants.{Memory}
use Rattle.vs_statements.proofs.Lists.{pushed_first}
use Rattle.vs_parser.specs.Headings as part
use Rattle.vs_statements.proofs.Places.{answer_exit}
use Rattle.vs_statements.proofs.Pairs.{ok_at, err_at}
use Rattle.vs_parser.proofs.modules.declaration.Goals as goal

pub returns-in_err-value_type : goal.returns-in_err-value_type
returns-in_err-value_type c = answer_exit _ _ c.from_residual.result c.in_err-value_type.field-0.0 c.from_residual.ensures.1 (err_at _ _ c.in_err-value_type.ensures c.one-settings.ensures)

pub returns : goal.returns
returns c = rw c.in_ok-value_type.ensures.0 (ap (λ z. part.declaration_of c.args.place (view.value_type c.args.declared) (map view.setting z)) (ok_at _ _ c.in_ok-value_type.ensures.1 c.one-settings.ensures))
