use Rattle.std.proofs.Common.{Bool, sym, ◌∙◌, subst}
use Rattle.vs_const.specs.Selects.{addressed_in}
use Rattle.vs_const.specs.Checks.{ChecksAddress}
use Rattle.vs_const.proofs.found.find_address.Goals as goal

pub returns-else-s : goal.returns-else-s
returns-else-s c = λ m needed t net words says.
    subst (λ (b : Bool). ChecksAddress c.in_memory.result (addressed_in b m c.args.at t)) (sym c.if-s.false ∙ net) (c.in_memory.ensures m c.args.at t says.finds.checks)
