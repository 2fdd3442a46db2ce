use Rattle.std.proofs.Common.{sym, ◌∙◌}
use Rattle.vs_lexer.proofs.TableFacts.{keywords_are, left_out_words_are, looked_up, among_is, keyword_is, left_out_is, identifier_is}
use Rattle.vs_lexer.proofs.scan.word_kind.Goals as goal

pub returns-in-Some : goal.returns-in-Some
returns-in-Some c = sym (keyword_is c.args.word.now c.in-Some.kind (looked_up _ _ c.args.word.now _ keywords_are c.find_spelling.ensures ∙ c.in-Some.is))

pub returns-then-is_among : goal.returns-then-is_among
returns-then-is_among c =
    sym (left_out_is c.args.word.now (looked_up _ _ c.args.word.now _ keywords_are c.find_spelling.ensures ∙ c.in-None.is) (among_is _ _ c.args.word.now _ left_out_words_are (sym c.is_among.ensures ∙ c.if-is_among.true)))

pub returns-else-is_among : goal.returns-else-is_among
returns-else-is_among c =
    sym (identifier_is c.args.word.now (looked_up _ _ c.args.word.now _ keywords_are c.find_spelling.ensures ∙ c.in-None.is) (among_is _ _ c.args.word.now _ left_out_words_are (sym c.is_among.ensures ∙ c.if-is_among.false)))
