use Rattle.std.proofs.Common.{◌*◌, ap₂, ◌∙◌}
use Rattle.vs_four.specs.Planes.{bits_of_planes}
use Rattle.vs_four.proofs.PlaneParts.{replicate-planes}
use Rattle.vs_four.proofs.numbers.repeated.Goals as goal

pub returns : goal.returns
returns c =
    ap₂ (bits_of_planes c.args.len)
    (ap₂ ◌*◌ c.value_digit.ensures c.ones.ensures)
    (ap₂ ◌*◌ c.unknown_digit.ensures c.ones-2.ensures)
    ∙ replicate-planes c.args.len c.args.bit
