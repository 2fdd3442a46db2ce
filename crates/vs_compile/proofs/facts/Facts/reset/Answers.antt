use Rattle.vs_compile.proofs.Accepted.{reset_known}
use Rattle.vs_compile.proofs.facts.Facts.reset.Goals as goal

pub returns : goal.returns
returns c = reset_known c.self.inside.templates.arena c.self.inside.footprints.now c.self.inside.clocks.now c.args.self.now c.self.view_is c.self.invariant.facts c.args.process c.reset.result c.reset.ensures
