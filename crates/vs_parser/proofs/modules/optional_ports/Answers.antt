use Rattle.std.proofs.Common.{refl, sym, ◌∙◌}
use Rattle.vs_statements.proofs.Places.{answer_exit, refused_former, read_eps, read_former, read_latter, parsed}
use Rattle.vs_parser.proofs.modules.optional_ports.Goals as goal

pub returns-then-not-stands_any : goal.returns-then-not-stands_any
returns-then-not-stands_any c = parsed (read_latter (sym c.stands_any.ensures ∙ c.if-not-stands_any.true) (read_eps c.args.input.now.tokens.now c.args.depth.value c.args.at c.args.depth.limit)) refl

pub returns-in_err-inner : goal.returns-in_err-inner
returns-in_err-inner c = answer_exit _ _ c.from_residual.result c.in_err-inner.field-0.0 c.from_residual.ensures.1 (refused_former (sym c.stands_any.ensures ∙ c.if-not-stands_any.false) c.in_err-inner.ensures)

pub returns : goal.returns
returns c = parsed (read_former (sym c.stands_any.ensures ∙ c.if-not-stands_any.false) c.in_ok-inner.ensures.read) (c.in_ok-inner.ensures.made)
