use Rattle.vs_compile.proofs.Accepted.{known_facts, needs_known, ports_known}
use Rattle.vs_compile.proofs.facts.FactsProcesses.copies_clock.Goals as goal

pub returns : goal.returns
returns c =
    let facts = known_facts c.self.inside.templates.arena c.self.inside.footprints.now c.self.inside.clocks.now c.args.self.now c.self.view_is c.self.invariant.facts in
    let has = needs_known c.args.self.now c.self.inside.footprints.now c.self.inside.clocks.now.nets facts c.args.process c.requires.process c.needs.result.now c.needs.ensures in
    ports_known c.args.self.now c.self.inside.footprints.now c.self.inside.clocks.now.nets facts c.args.process c.requires.process c.args._clocks.now c.requires.clocks c.needs.result.now has c.has_clock.result c.has_clock.ensures
