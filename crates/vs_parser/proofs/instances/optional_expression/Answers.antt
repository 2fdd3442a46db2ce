use Rattle.std.proofs.Common.{refl, sym, ◌∙◌, ap}
use Rattle.std.specs.Prelude.{Some}
use Rattle.vs_statements.proofs.Places.{answer_exit, refused_former, read_eps, read_former, read_latter, parsed}
use Rattle.vs_parser.proofs.instances.optional_expression.Goals as goal

pub returns-then-not-is_expression_at : goal.returns-then-not-is_expression_at
returns-then-not-is_expression_at c = parsed (read_latter (sym c.is_expression_at.ensures ∙ c.if-not-is_expression_at.true) (read_eps c.args.input.now.tokens.now c.args.depth.value c.args.at c.args.depth.limit)) refl

pub returns-in_err-inner : goal.returns-in_err-inner
returns-in_err-inner c = answer_exit _ _ c.from_residual.result c.in_err-inner.field-0.0 c.from_residual.ensures.1 (refused_former (sym c.is_expression_at.ensures ∙ c.if-not-is_expression_at.false) c.in_err-inner.ensures)

pub returns : goal.returns
returns c = parsed (read_former (sym c.is_expression_at.ensures ∙ c.if-not-is_expression_at.false) c.in_ok-inner.ensures.read) (ap (λ z. Some z) c.in_ok-inner.ensures.made)
