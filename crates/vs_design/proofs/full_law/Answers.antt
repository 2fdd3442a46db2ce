use Rattle.vs_design.proofs.Covering.{covers_found}
use Rattle.vs_design.proofs.Completed.{completed_same}
use Rattle.vs_design.proofs.full_law.Goals as goal

pub returns : goal.returns
returns c = record { covers = covers_found; same = completed_same }
