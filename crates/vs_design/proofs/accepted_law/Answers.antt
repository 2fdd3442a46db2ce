use Rattle.vs_design.proofs.Exactly.{accepted_exactly}
use Rattle.vs_design.proofs.Decided.{accepted_or_refused, not_both}
use Rattle.vs_design.proofs.accepted_law.Goals as goal

pub returns : goal.returns
returns c = record { exactly = accepted_exactly; either = accepted_or_refused; not_both = not_both }
