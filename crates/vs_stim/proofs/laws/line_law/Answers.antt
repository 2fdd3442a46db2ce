use Rattle.vs_stim.proofs.Numbers.{line_read}
use Rattle.vs_stim.proofs.laws.line_law.Goals as goal

pub returns : goal.returns
returns c = λ ports text count cs line at rest h some. line_read ports text count cs line at rest h some
