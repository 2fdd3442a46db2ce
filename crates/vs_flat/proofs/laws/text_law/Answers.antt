use Rattle.vs_flat.proofs.TextOrder.{process_in_text, initial_in_text}
use Rattle.vs_flat.proofs.laws.text_law.Goals as goal

pub returns : goal.returns
returns c = record { processes = process_in_text; initials = initial_in_text }
