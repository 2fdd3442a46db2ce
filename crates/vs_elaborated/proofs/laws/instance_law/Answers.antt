use Rattle.vs_elaborated.proofs.SoundScopes.{overrides_are_fine, instances_have_ports}
use Rattle.vs_elaborated.proofs.laws.instance_law.Goals as goal

pub returns : goal.returns
returns c = record { overrides = overrides_are_fine; ports = instances_have_ports }
