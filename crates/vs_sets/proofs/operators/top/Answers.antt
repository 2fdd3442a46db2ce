use Rattle.std.proofs.Common.{◌<◌, length, arith, ◌∙◌}
use Rattle.std.proofs.lemmas.Bool.Decides.{nat_tests}
use Rattle.vs_four.specs.declared.Bit4.TheVariants.{Zero}
use Rattle.vs_design.specs.Sets.{only}
use Rattle.vs_sets.proofs.Steps.{last_or-at}
use Rattle.vs_sets.proofs.operators.top.Goals as goal

pub returns : goal.returns
returns c =
    let some : 0 < length c.args.sets.now = grind (arith, nat_tests, c.is_empty.ensures, c.if-is_empty.false) in
    c.index-sets-sets.is ∙ last_or-at (only Zero) c.index-sets-sets.result c.args.sets.now some
