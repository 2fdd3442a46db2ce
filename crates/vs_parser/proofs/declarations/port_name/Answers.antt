use Rattle.std.proofs.Common.{Bool, sym, ◌∙◌, subst}
use Rattle.vs_ast.specs.Views as view
use Rattle.vs_statements.specs.Reading.{Answers}
use Rattle.vs_statements.proofs.Places.{answer_more, parsed}
use Rattle.vs_parser.specs.Parts as part
use Rattle.vs_parser.proofs.declarations.port_name.Goals as goal

pub returns-then-is_variable : goal.returns-then-is_variable
returns-then-is_variable c = subst (λ (v : Bool). Answers c.args.input.now (part.port_name v) (part.port_name_of v) view.declarator c.args.depth c.args.at c.valued_declarator.result) (sym c.if-is_variable.true ∙ c.is_variable.ensures) (answer_more c.valued_declarator.result c.valued_declarator.ensures (λ f w. parsed w.read w.made) (λ e w. w))

pub returns-else-is_variable : goal.returns-else-is_variable
returns-else-is_variable c = subst (λ (v : Bool). Answers c.args.input.now (part.port_name v) (part.port_name_of v) view.declarator c.args.depth c.args.at c.plain_declarator.result) (sym c.if-is_variable.false ∙ c.is_variable.ensures) (answer_more c.plain_declarator.result c.plain_declarator.ensures (λ f w. parsed w.read w.made) (λ e w. w))
