use Rattle.std.proofs.Common.{◌≡◌, subst}
use Rattle.vs_flat.specs.Arena.{Arena}
use Rattle.vs_flat.specs.DesignOf.{design_of}
use Rattle.vs_accept.specs.Numbers.{begin_of}
use Rattle.vs_accept.proofs.numbers.begin.Goals as goal

pub returns : goal.returns
returns c = subst (λ (a : Arena). c.flat_begin.result ≡ begin_of (design_of a) c.args.process) c.flat.ensures.same c.flat_begin.ensures
