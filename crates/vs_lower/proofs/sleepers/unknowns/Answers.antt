use Rattle.std.proofs.Common.{◌∙◌, sym}
use Rattle.vs_lower.proofs.Sleeping.{unknowns_are}
use Rattle.vs_lower.proofs.sleepers.unknowns.Goals as goal

pub returns : goal.returns
returns c = c.in_ok-to.ensures.items_if_clones_equal (λ y e. e) ∙ sym (unknowns_are c.args.bits.now)
