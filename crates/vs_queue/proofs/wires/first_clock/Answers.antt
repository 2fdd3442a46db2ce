use Rattle.std.proofs.Common.{sym, ap, ◌∙◌}
use Rattle.std.specs.Option.{option_copied}
use Rattle.vs_queue.proofs.Listening.{first_some, first_none}
use Rattle.vs_queue.proofs.wires.first_clock.Goals as goal

pub returns-in-Some : goal.returns-in-Some
returns-in-Some c = first_some c.args.clocks.now c.in-Some.clock.now (ap option_copied (sym c.in-Some.is) ∙ c.first.ensures.value)

pub returns-in-None : goal.returns-in-None
returns-in-None c = first_none c.args.clocks.now (ap option_copied (sym c.in-None.is) ∙ c.first.ensures.value)
