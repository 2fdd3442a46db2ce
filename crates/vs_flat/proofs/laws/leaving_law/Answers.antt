use Rattle.vs_flat.proofs.Leaving.{left_as_design, left_lawfully}
use Rattle.vs_flat.proofs.laws.leaving_law.Goals as goal

pub returns : goal.returns
returns c = record { design = left_as_design; lawful = left_lawfully }
