use Rattle.std.proofs.Common.{◌≡◌, subst, ap, slice_get}
use Rattle.vs_design.specs.Clocks.{clock_nets}
use Rattle.vs_flat.specs.DesignOf.{design_of}
use Rattle.vs_cone.specs.Cones.{is_port_or}
use Rattle.vs_compile.specs.Known.{Known}
use Rattle.vs_compile.specs.Laid.{Laid}
use Rattle.vs_compile.proofs.lowerer.LowererProcesses.copies_clock.Goals as goal

pub returns : goal.returns
returns c =
    subst (λ (k : Known). c.copies_clock.result ≡ is_port_or (clock_nets (design_of k.arena) c.args.clocks.now) (slice_get (design_of k.arena).processes c.args.process))
    (ap (λ (l : Laid). l.known) c.self.view_is) c.copies_clock.ensures
