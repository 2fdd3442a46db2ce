use Rattle.vs_queue.proofs.Drawn.{drawn_is_first}
use Rattle.vs_queue.proofs.laws.first_law.Goals as goal

pub returns : goal.returns
returns c = drawn_is_first
