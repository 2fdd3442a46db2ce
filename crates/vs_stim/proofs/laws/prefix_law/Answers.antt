use Rattle.vs_stim.proofs.Behind.{later_lines}
use Rattle.vs_stim.proofs.laws.prefix_law.Goals as goal

pub returns : goal.returns
returns c = λ is text later. later_lines is text later
