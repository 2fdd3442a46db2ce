use Rattle.vs_elaborated.proofs.ScopedBlocks.{variables_few, variables_sound}
use Rattle.vs_elaborated.proofs.ScopedLaws.{blocks_are_shaped, blocks_come_before, variables_counted}
use Rattle.vs_elaborated.proofs.laws.named_law.Goals as goal

pub returns : goal.returns
returns c = record { shaped = blocks_are_shaped; before = blocks_come_before; counted = variables_counted; few = variables_few; sound = variables_sound }
