use Rattle.vs_compile.proofs.Accepted.{known_facts, writes_known}
use Rattle.vs_compile.proofs.facts.FactsProcesses.writes.Goals as goal

pub returns : goal.returns
returns c =
    let facts = known_facts c.self.inside.templates.arena c.self.inside.footprints.now c.self.inside.clocks.now c.args.self.now c.self.view_is c.self.invariant.facts in
    writes_known c.footprint_law.ensures.bits c.args.self.now c.self.inside.footprints.now c.self.inside.clocks.now.nets facts c.args.process c.requires c.writes.result.now c.writes.ensures
