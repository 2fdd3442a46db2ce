use Rattle.std.proofs.Common.{◌∙◌}
use Rattle.vs_clock.proofs.Finding.{same_is}
use Rattle.vs_clock.proofs.inputs.are_same.Goals as goal

pub returns : goal.returns
returns c = c.eq.ensures ∙ same_is c.args.a.now c.args.b.now
