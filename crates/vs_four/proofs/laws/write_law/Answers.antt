use Rattle.vs_four.proofs.SelectLaws.{write_then_select}
use Rattle.vs_four.proofs.laws.write_law.Goals as goal

pub returns : goal.returns
returns c = write_then_select
