use Rattle.std.proofs.Common.{refl, ap}
use Rattle.std.specs.Prelude.{Some}
use Rattle.vs_statements.proofs.Places.{answer_exit, refused_former, read_eps, read_former, read_latter, parsed, one_true, one_false}
use Rattle.vs_statements.proofs.types.optional_scope.Goals as goal

pub returns-then-not-stands : goal.returns-then-not-stands
returns-then-not-stands c = parsed (read_latter (one_false _ c.stands.result c.stands.ensures c.if-not-stands.true) (read_eps c.args.input.now.tokens.now c.args.depth.value c.args.at c.args.depth.limit)) refl

pub returns-in_err-inner : goal.returns-in_err-inner
returns-in_err-inner c = answer_exit _ _ c.from_residual.result c.in_err-inner.field-0.0 c.from_residual.ensures.1 (refused_former (one_true _ c.stands.result c.stands.ensures c.if-not-stands.false) c.in_err-inner.ensures)

pub returns : goal.returns
returns c = parsed (read_former (one_true _ c.stands.result c.stands.ensures c.if-not-stands.false) c.in_ok-inner.ensures.read) (ap (λ z. Some z) c.in_ok-inner.ensures.made)
