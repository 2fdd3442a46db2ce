use Rattle.vs_waves.proofs.Listing.{no_lines}
use Rattle.vs_waves.proofs.changes.Changes.clear.Goals as goal

pub returns-clause-none : goal.returns-clause-none
returns-clause-none g c = λ i. no_lines g.W.Word.lane g.W.Word.LANES _ i c.clear.ensures.items
