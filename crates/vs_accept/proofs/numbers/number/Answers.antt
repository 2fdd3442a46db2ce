use Rattle.std.proofs.Common.{◌≡◌, sym, subst}
use Rattle.vs_flat.specs.Arena.{Arena}
use Rattle.vs_flat.specs.DesignOf.{design_of}
use Rattle.vs_flat.specs.Lawful.{IsLawful}
use Rattle.vs_accept.specs.Numbers.{number_of}
use Rattle.vs_accept.proofs.numbers.number.Goals as goal

pub flat_number-requires : goal.flat_number-requires
flat_number-requires c = subst IsLawful (sym c.flat.ensures.same) c.flat.ensures.lawful

pub returns : goal.returns
returns c = subst (λ (a : Arena). c.flat_number.result ≡ number_of (design_of a) c.args.process) c.flat.ensures.same c.flat_number.ensures
