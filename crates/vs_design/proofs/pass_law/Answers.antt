use Rattle.vs_design.proofs.Lawful.{one_pass_of}
use Rattle.vs_design.proofs.pass_law.Goals as goal

pub returns : goal.returns
returns c = one_pass_of
