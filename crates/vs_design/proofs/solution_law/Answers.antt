use Rattle.vs_design.proofs.SlotEnds.{slot_values_are}
use Rattle.vs_design.proofs.solution_law.Goals as goal

pub returns : goal.returns
returns c = slot_values_are
