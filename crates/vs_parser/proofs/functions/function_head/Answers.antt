use Rattle.vs_statements.specs.Reading.{bytes_in}
use Rattle.vs_statements.proofs.Places.{answer_more, refused_var, refused_former, refused_latter, read_var, read_former, read_latter, parsed, one_true, one_false}
use Rattle.vs_parser.proofs.FunctionHeads.{head_in_brackets, head_behind}
use Rattle.vs_parser.proofs.functions.function_head.Goals as goal

pub returns-then-stands : goal.returns-then-stands
returns-then-stands c = answer_more c.inputs_in_brackets.result c.inputs_in_brackets.ensures (λ f w. parsed (read_var (read_former (one_true _ c.stands.result c.stands.ensures c.if-stands.true) w.read)) (head_in_brackets (bytes_in c.args.input.now) w.tree w.made)) (λ e w. refused_var (refused_former (one_true _ c.stands.result c.stands.ensures c.if-stands.true) w))

pub returns-else-stands : goal.returns-else-stands
returns-else-stands c = answer_more c.inputs_behind.result c.inputs_behind.ensures (λ f w. parsed (read_var (read_latter (one_false _ c.stands.result c.stands.ensures c.if-stands.false) w.read)) (head_behind (bytes_in c.args.input.now) w.tree w.made)) (λ e w. refused_var (refused_latter (one_false _ c.stands.result c.stands.ensures c.if-stands.false) w))
