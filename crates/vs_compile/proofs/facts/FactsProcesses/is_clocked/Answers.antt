use Rattle.std.proofs.Common.{◌≡◌, subst, ap, slice_get}
use Rattle.vs_flat.specs.Arena.{Arena}
use Rattle.vs_flat.specs.DesignOf.{design_of}
use Rattle.vs_assemble.specs.Plans.{is_clocked_or}
use Rattle.vs_compile.specs.Known.{Known}
use Rattle.vs_compile.proofs.facts.FactsProcesses.is_clocked.Goals as goal

pub returns : goal.returns
returns c =
    subst (λ (a : Arena). c.is_clocked.result ≡ is_clocked_or (slice_get (design_of a).processes c.args.process))
    (ap (λ (k : Known). k.arena) c.self.view_is)
    (subst (λ (a : Arena). c.is_clocked.result ≡ is_clocked_or (slice_get (design_of a).processes c.args.process)) c.typed.ensures c.is_clocked.ensures)
