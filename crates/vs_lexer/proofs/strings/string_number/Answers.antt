use Rattle.std.proofs.Common.{◌∙◌, ap}
use Rattle.vs_lexer.specs.Strings.{character_limit, characters_of, characters_within, number_of_characters}
use Rattle.vs_lexer.proofs.strings.string_number.Goals as goal

pub returns-clause-number : goal.returns-clause-number
unfolding characters_of
returns-clause-number c = c.number_within.ensures.number ∙ ap (λ l. number_of_characters (characters_within character_limit l)) c.between_quotes.ensures
