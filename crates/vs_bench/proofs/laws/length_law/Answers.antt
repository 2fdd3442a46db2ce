use Rattle.vs_bench.proofs.Lengths.{length-stimulus}
use Rattle.vs_bench.proofs.laws.length_law.Goals as goal

pub returns : goal.returns
returns c = length-stimulus
