use Rattle.std.proofs.Common.{refl}
use Rattle.vs_statements.proofs.Places.{answer_exit, answer_more, refused_var, refused_missing, refused_former, refused_latter, read_tok, read_var, read_former, read_latter, parsed, one_true, one_false}
use Rattle.vs_statements.proofs.types.variable_type.Goals as goal

pub returns-then-stands : goal.returns-then-stands
returns-then-stands c = answer_more c.reg_type.result c.reg_type.ensures (λ f w. parsed (read_var (read_former (one_true _ c.stands.result c.stands.ensures c.if-stands.true) w.read)) w.made) (λ e w. refused_var (refused_former (one_true _ c.stands.result c.stands.ensures c.if-stands.true) w))

pub returns-in_err-to : goal.returns-in_err-to
returns-in_err-to c = answer_exit _ _ c.from_residual.result c.in_err-to.field-0.0 c.from_residual.ensures.1 (refused_var (refused_latter (one_false _ c.stands.result c.stands.ensures c.if-stands.false) (refused_missing c.in_err-to.ensures)))

pub returns-in_ok-to : goal.returns-in_ok-to
returns-in_ok-to c = parsed (read_var (read_latter (one_false _ c.stands.result c.stands.ensures c.if-stands.false) (read_tok c.args.depth.limit c.in_ok-to.ensures))) refl
