use Rattle.std.proofs.Common.{subst, ap}
use Rattle.vs_design.specs.Designs.{bit_count}
use Rattle.vs_flat.specs.DesignOf.{design_of}
use Rattle.vs_cone.specs.Cones.{needs_at}
use Rattle.vs_assemble.specs.Flags.{HasBitsOf}
use Rattle.vs_compile.specs.Known.{Known}
use Rattle.vs_compile.specs.Laid.{Laid}
use Rattle.vs_compile.proofs.lowerer.LowererProcesses.needs.Goals as goal

pub returns : goal.returns
returns c =
    subst (λ (k : Known). HasBitsOf (bit_count (design_of k.arena)) c.needs.result.now (needs_at (design_of k.arena) c.args.process))
    (ap (λ (l : Laid). l.known) c.self.view_is) c.needs.ensures
