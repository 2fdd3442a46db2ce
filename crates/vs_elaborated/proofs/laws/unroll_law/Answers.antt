use Rattle.vs_elaborated.proofs.Unrolling.{runs_as_unrolled, blocks_run, scoped_blocks_run, initials_run, functions_run}
use Rattle.vs_elaborated.proofs.laws.unroll_law.Goals as goal

pub returns : goal.returns
returns c = record { statements = runs_as_unrolled; blocks = blocks_run; scoped = scoped_blocks_run; initials = initials_run; functions = functions_run }
