use Rattle.std.proofs.Common.{ap, subst, sym, ◌∙◌}
use Rattle.vs_design.specs.Elaborated.{IsLawfulDesign}
use Rattle.vs_flat.specs.DesignOf.{design_of}
use Rattle.vs_build.specs.Growth.{Growing, draft}
use Rattle.vs_build.proofs.Additions.{lawful}
use Rattle.vs_build.proofs.builder.Builder.finish.Goals as goal

pub returns-clause-design : goal.returns-clause-design
returns-clause-design c = ap (λ (w : Growing). design_of w.arena) c.self.view_is

pub returns-clause-lawful : goal.returns-clause-lawful
returns-clause-lawful c = lawful c.self.inside.flat c.self.inside.roots.items c.self.inside.bodies.items c.self.invariant.0 (ap (λ (w : Growing). (draft w).function) c.self.view_is ∙ c.requires.outside) (subst (λ (w : Growing). IsLawfulDesign (draft w).design) (sym c.self.view_is) c.requires.lawful)
