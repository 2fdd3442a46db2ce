use Rattle.vs_design.proofs.ExampleWordPartLaws.{word_parts_computed}
use Rattle.vs_design.proofs.word_part_examples.Goals as goal

pub returns : goal.returns
returns c = word_parts_computed
