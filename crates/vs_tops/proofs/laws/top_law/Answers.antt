use Rattle.std.proofs.Common.{refl, ap}
use Rattle.vs_tops.specs.Designs.{elaborated_by}
use Rattle.vs_tops.proofs.laws.top_law.Goals as goal

pub returns : goal.returns
returns c = record { given = λ source top. refl; own = λ source top h. ap (elaborated_by source) h }
