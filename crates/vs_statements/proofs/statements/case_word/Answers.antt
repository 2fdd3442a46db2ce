use Rattle.std.proofs.Common.{◌≡◌, false}
use Rattle.vs_grammar.specs.Predictive.{is_member}
use Rattle.vs_statements.specs.Parts as part
use Rattle.vs_statements.specs.Reading.{kind_at}
use Rattle.vs_statements.proofs.Choices.{option_more, case_picked}
use Rattle.vs_statements.proofs.statements.case_word.Goals as goal

pub returns : goal.returns
returns c = option_more (is_member (kind_at c.args.input.now.tokens.now c.args.at) part.case_kinds ≡ false) c.choose.result c.choose.ensures (λ y w. case_picked w)
