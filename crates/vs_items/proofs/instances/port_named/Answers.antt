use Rattle.std.proofs.Common.{subst}
use Rattle.vs_elaborated.specs.Instances.{module_ports}
use Rattle.vs_items.specs.Interfaces.{IsKnown}
use Rattle.vs_items.proofs.InstanceFaults.{known_ports}
use Rattle.vs_items.proofs.instances.port_named.Goals as goal

pub returns-in-Some : goal.returns-in-Some
returns-in-Some c = λ m known. c.find.ensures (module_ports m) (known_ports c.in-Some.i.now m (subst (λ o. IsKnown o m) c.in-Some.is known))
