use Rattle.vs_flat.proofs.Growing.{called_earlier, called_before, body_there, body_names}
use Rattle.vs_flat.proofs.laws.calls_law.Goals as goal

pub returns : goal.returns
returns c = record { calls = called_earlier; before = called_before; bodies = body_there; names = body_names }
