use Rattle.vs_typed.proofs.Unrefused.{unrefused_fit, unrefused_initials}
use Rattle.vs_typed.proofs.laws.unrefused_law.Goals as goal

pub returns : goal.returns
returns c = record { processes = unrefused_fit; initials = unrefused_initials }
