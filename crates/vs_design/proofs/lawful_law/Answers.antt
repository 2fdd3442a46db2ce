use Rattle.vs_design.proofs.Lawful.{lawful, beginning_is}
use Rattle.vs_design.proofs.lawful_law.Goals as goal

pub returns : goal.returns
returns c = record { lawful = lawful; beginning = beginning_is }
