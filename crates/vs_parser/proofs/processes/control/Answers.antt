use Rattle.std.proofs.Common.{refl}
use Rattle.vs_statements.proofs.Places.{answer_exit, refused_missing, refused_former, refused_latter, read_tok, read_former, read_latter, parsed, one_true, one_false, answer_more}
use Rattle.vs_parser.proofs.processes.control.Goals as goal

pub returns-then-stands : goal.returns-then-stands
returns-then-stands c = answer_more c.single_event.result c.single_event.ensures (λ f w. parsed (read_former (one_true _ c.stands.result c.stands.ensures c.if-stands.true) w.read) w.made) (λ e w. (refused_former (one_true _ c.stands.result c.stands.ensures c.if-stands.true) w))

pub returns-in_err-star : goal.returns-in_err-star
returns-in_err-star c = answer_exit _ _ c.from_residual.result c.in_err-star.field-0.0 c.from_residual.ensures.1 (refused_latter (one_false _ c.stands.result c.stands.ensures c.if-stands.false) (refused_former (one_true _ c.stands-else-stands.result c.stands-else-stands.ensures c.if-stands-2.true) (refused_missing c.in_err-star.ensures)))

pub returns-in_ok-star : goal.returns-in_ok-star
returns-in_ok-star c = parsed (read_latter (one_false _ c.stands.result c.stands.ensures c.if-stands.false) (read_former (one_true _ c.stands-else-stands.result c.stands-else-stands.ensures c.if-stands-2.true) (read_tok c.args.depth.limit c.in_ok-star.ensures))) refl

pub returns-else-stands-2 : goal.returns-else-stands-2
returns-else-stands-2 c = answer_more c.bracketed_control.result c.bracketed_control.ensures (λ f w. parsed (read_latter (one_false _ c.stands.result c.stands.ensures c.if-stands.false) (read_latter (one_false _ c.stands-else-stands.result c.stands-else-stands.ensures c.if-stands-2.false) w.read)) w.made) (λ e w. (refused_latter (one_false _ c.stands.result c.stands.ensures c.if-stands.false) (refused_latter (one_false _ c.stands-else-stands.result c.stands-else-stands.ensures c.if-stands-2.false) w)))
