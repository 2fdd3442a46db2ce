use Rattle.vs_vcd.proofs.Unchanged.{equal_from_identical, identical_from_equal}
use Rattle.vs_vcd.proofs.laws.unchanged_law.Goals as goal

pub returns : goal.returns
returns c = λ a b h. (equal_from_identical a b h, identical_from_equal a b)
