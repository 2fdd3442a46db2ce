use Rattle.std.proofs.Common.{◌≡◌, subst, None}
use Rattle.vs_design.specs.Refusals.{width_refusal}
use Rattle.vs_flat.specs.DesignOf.{design_of}
use Rattle.vs_flat.specs.Lawful.{IsLawful}
use Rattle.vs_values.specs.Templates.{Templated}
use Rattle.vs_values.proofs.templates.Templates.flat.Goals as goal

pub returns-clause-lawful : goal.returns-clause-lawful
returns-clause-lawful c = subst (λ (t : Templated). IsLawful t.arena) c.self.view_is c.flat.ensures.lawful

pub returns-clause-fits : goal.returns-clause-fits
returns-clause-fits c = subst (λ (t : Templated). width_refusal (design_of t.arena) ≡ None) c.self.view_is c.flat.ensures.fits
