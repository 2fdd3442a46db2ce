use Rattle.vs_program.proofs.Runs.{ends_are_reached, rounds_solve}
use Rattle.vs_program.proofs.laws.run_law.Goals as goal

pub returns-clause-reached : goal.returns-clause-reached
returns-clause-reached c = ends_are_reached

pub returns-clause-solves : goal.returns-clause-solves
returns-clause-solves c = rounds_solve
