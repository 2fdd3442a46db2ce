use Rattle.vs_desk.proofs.Contents.{with_put-nil, with_put-with_put}
use Rattle.vs_desk.proofs.laws.put_law.Goals as goal

pub returns-clause-nothing : goal.returns-clause-nothing
returns-clause-nothing c = with_put-nil

pub returns-clause-parts : goal.returns-clause-parts
returns-clause-parts c = with_put-with_put
