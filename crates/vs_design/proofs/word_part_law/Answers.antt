use Rattle.vs_design.proofs.WordParts.{parts_of_word, parts_of_none}
use Rattle.vs_design.proofs.word_part_law.Goals as goal

pub returns : goal.returns
returns c = record { words = parts_of_word; none = parts_of_none }
