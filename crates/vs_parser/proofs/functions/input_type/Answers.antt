use Rattle.vs_statements.proofs.Places.{answer_more, refused_var, refused_former, refused_latter, read_var, read_former, read_latter, parsed, one_true, one_false}
use Rattle.vs_parser.proofs.functions.input_type.Goals as goal

pub returns-then-stands : goal.returns-then-stands
returns-then-stands c = answer_more c.reg_type.result c.reg_type.ensures (λ f w. parsed (read_var (read_former (one_true _ c.stands.result c.stands.ensures c.if-stands.true) w.read)) w.made) (λ e w. refused_var (refused_former (one_true _ c.stands.result c.stands.ensures c.if-stands.true) w))

pub returns-else-stands : goal.returns-else-stands
returns-else-stands c = answer_more c.value_type.result c.value_type.ensures (λ f w. parsed (read_var (read_latter (one_false _ c.stands.result c.stands.ensures c.if-stands.false) w.read)) w.made) (λ e w. refused_var (refused_latter (one_false _ c.stands.result c.stands.ensures c.if-stands.false) w))
