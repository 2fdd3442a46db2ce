use Rattle.vs_desk.proofs.Contents.{with_taken-zero, with_taken-with_taken}
use Rattle.vs_desk.proofs.laws.take_law.Goals as goal

pub returns-clause-nothing : goal.returns-clause-nothing
returns-clause-nothing c = with_taken-zero

pub returns-clause-parts : goal.returns-clause-parts
returns-clause-parts c = with_taken-with_taken
