use Rattle.std.proofs.Common.{sym, ◌∙◌}
use Rattle.vs_driver.proofs.single.tell.Goals as goal

pub tell_writers-requires-clause-started : goal.tell_writers-requires-clause-started
tell_writers-requires-clause-started c = sym c.requires.started ∙ c.if-started.true

pub tell_drivers-requires-clause-started : goal.tell_drivers-requires-clause-started
tell_drivers-requires-clause-started c = sym c.requires.started ∙ c.if-started.false
