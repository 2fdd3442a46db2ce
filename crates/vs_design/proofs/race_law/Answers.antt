use Rattle.vs_design.proofs.Stirring.{stirred_bits_are, race_by_any_order}
use Rattle.vs_design.proofs.race_law.Goals as goal

pub returns : goal.returns
returns c = record { stirred = stirred_bits_are; orders = race_by_any_order }
