use Rattle.std.proofs.Common.{Bool, sym, ◌∙◌, subst, map}
use Rattle.vs_ast.specs.Views as view
use Rattle.vs_statements.specs.Reading.{Answers}
use Rattle.vs_statements.proofs.Places.{answer_more, parsed, read_var, refused_var}
use Rattle.vs_parser.specs.Parts as part
use Rattle.vs_parser.proofs.declarations.port_names.Goals as goal

pub returns-then-is_variable : goal.returns-then-is_variable
returns-then-is_variable c = subst (λ (v : Bool). Answers c.args.input.now (part.port_names v) (part.port_names_of v) (λ w. map view.declarator w.items) c.args.depth c.args.at c.valued_declarators.result) (sym c.if-is_variable.true ∙ c.is_variable.ensures) (answer_more c.valued_declarators.result c.valued_declarators.ensures (λ f w. parsed w.read w.made) (λ e w. w))

pub returns-else-is_variable : goal.returns-else-is_variable
returns-else-is_variable c = subst (λ (v : Bool). Answers c.args.input.now (part.port_names v) (part.port_names_of v) (λ w. map view.declarator w.items) c.args.depth c.args.at c.plain_declarators.result) (sym c.if-is_variable.false ∙ c.is_variable.ensures) (answer_more c.plain_declarators.result c.plain_declarators.ensures (λ f w. parsed (read_var w.read) w.made) (λ e w. refused_var w))
