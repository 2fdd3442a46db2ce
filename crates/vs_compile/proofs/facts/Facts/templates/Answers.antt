use Rattle.vs_compile.proofs.Accepted.{known_facts}
use Rattle.vs_compile.proofs.facts.Facts.templates.Goals as goal

pub returns-clause-accepted : goal.returns-clause-accepted
returns-clause-accepted c = (known_facts c.self.inside.templates.arena c.self.inside.footprints.now c.self.inside.clocks.now c.args.self.now c.self.view_is c.self.invariant.facts).accepted
