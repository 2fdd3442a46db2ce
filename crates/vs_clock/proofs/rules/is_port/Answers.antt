use Rattle.std.proofs.Common.{sym, ◌∙◌}
use Rattle.vs_design.specs.Clocks.{clock_nets}
use Rattle.vs_flat.specs.DesignOf.{design_of}
use Rattle.vs_clock.proofs.Ruled.{port_no, port_yes}
use Rattle.vs_clock.proofs.rules.is_port.Goals as goal

pub returns-in-Some : goal.returns-in-Some
returns-in-Some c = λ n a x e. port_yes (clock_nets (design_of c.args.flat.now) n) x _ _ c.is_clock.result (sym (c.in-Some.ensures x e)) (c.is_clock.ensures ∙ a.clock _)

pub returns-in-None : goal.returns-in-None
returns-in-None c = λ n a x e. port_no (clock_nets (design_of c.args.flat.now) n) x (sym (c.in-None.ensures x e))
