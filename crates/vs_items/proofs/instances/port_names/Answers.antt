use Rattle.std.proofs.Common.{subst}
use Rattle.vs_items.specs.Interfaces.{IsKnown}
use Rattle.vs_items.proofs.InstanceFaults.{port_known}
use Rattle.vs_items.proofs.instances.port_names.Goals as goal

pub returns-in-Some : goal.returns-in-Some
returns-in-Some c = λ m known name. port_known c.in-Some.i.now m (subst (λ o. IsKnown o m) c.in-Some.is known) name
