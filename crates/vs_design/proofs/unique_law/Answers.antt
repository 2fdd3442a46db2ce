use Rattle.vs_design.proofs.Lawful.{one_solution_of}
use Rattle.vs_design.proofs.unique_law.Goals as goal

pub returns : goal.returns
returns c = one_solution_of
