use Rattle.vs_events.proofs.BeginningSteps.{beginning_is_start, driving_is_next}
use Rattle.vs_events.proofs.laws.slot_law.Goals as goal

pub returns : goal.returns
returns c = record { start = beginning_is_start; next = driving_is_next }
