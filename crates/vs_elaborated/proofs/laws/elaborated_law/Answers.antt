use Rattle.vs_elaborated.proofs.LawfulDesigns.{elaborated_lawful}
use Rattle.vs_elaborated.proofs.EnoughFuel.{fuel_enough}
use Rattle.vs_elaborated.proofs.laws.elaborated_law.Goals as goal

pub returns : goal.returns
returns c = record { lawful = elaborated_lawful; depth = fuel_enough }
