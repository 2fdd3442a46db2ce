use Rattle.std.proofs.Common.{◌≡◌, subst, None, ◌∙◌}
use Rattle.vs_design.specs.Refusals.{width_refusal}
use Rattle.vs_flat.specs.Arena.{Arena}
use Rattle.vs_flat.specs.DesignOf.{design_of}
use Rattle.vs_flat.specs.Lawful.{IsLawful}
use Rattle.vs_typed.proofs.typed.Typed.flat.Goals as goal

pub returns-clause-lawful : goal.returns-clause-lawful
returns-clause-lawful c = subst IsLawful (c.flat.ensures.same ∙ c.self.view_is) c.flat.ensures.lawful

pub returns-clause-fits : goal.returns-clause-fits
returns-clause-fits c = subst (λ (a : Arena). width_refusal (design_of a) ≡ None) c.self.view_is c.self.invariant.unrefused
