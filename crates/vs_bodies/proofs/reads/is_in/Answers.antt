use Rattle.std.proofs.Common.{is_some, sym, ap, ◌∙◌}
use Rattle.std.specs.Option.{option_copied}
use Rattle.vs_bodies.proofs.reads.is_in.Goals as goal

pub returns-in-None : goal.returns-in-None
returns-in-None c = sym (ap is_some (sym c.get.ensures ∙ ap option_copied c.in-None.is))

pub returns-in-Some : goal.returns-in-Some
returns-in-Some c = sym (ap is_some (sym c.get.ensures ∙ ap option_copied c.in-Some.is))
