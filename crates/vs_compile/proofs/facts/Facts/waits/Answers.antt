use Rattle.std.proofs.Common.{◌∙◌, ap}
use Rattle.vs_flat.specs.DesignOf.{design_of}
use Rattle.vs_reads.specs.Footprint.{waits_at}
use Rattle.vs_compile.proofs.Accepted.{known_facts}
use Rattle.vs_compile.proofs.facts.Facts.waits.Goals as goal

pub returns : goal.returns
returns c = λ x at.
    let k = c.args.self.now in
    let facts = known_facts c.self.inside.templates.arena c.self.inside.footprints.now c.self.inside.clocks.now k c.self.view_is c.self.invariant.facts in
    c.waits.ensures ∙ ap (λ fs. waits_at fs c.args.process) facts.footprints_are ∙ (c.footprint_law.ensures.lists (design_of k.arena) c.args.process x at).waits
