use Rattle.std.proofs.Common.{◌≡◌, subst, ap, slice_get}
use Rattle.vs_flat.specs.DesignOf.{design_of}
use Rattle.vs_assemble.specs.Plans.{is_clocked_or}
use Rattle.vs_compile.specs.Known.{Known}
use Rattle.vs_compile.specs.Laid.{Laid}
use Rattle.vs_compile.proofs.lowerer.LowererProcesses.is_clocked.Goals as goal

pub returns : goal.returns
returns c =
    subst (λ (k : Known). c.is_clocked.result ≡ is_clocked_or (slice_get (design_of k.arena).processes c.args.process))
    (ap (λ (l : Laid). l.known) c.self.view_is) c.is_clocked.ensures
