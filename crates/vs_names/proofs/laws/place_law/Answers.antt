use Rattle.vs_names.proofs.Ordered.{places_in_text}
use Rattle.vs_names.proofs.laws.place_law.Goals as goal

pub returns : goal.returns
returns c = places_in_text
