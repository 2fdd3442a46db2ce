use Rattle.std.proofs.Common.{◌≡◌, None, map, ap, ◌∙◌, subst}
use Rattle.vs_flat.specs.Arena.{Arena}
use Rattle.vs_flat.specs.DesignOf.{design_of}
use Rattle.vs_typed.specs.Refused.{first_refused}
use Rattle.vs_typed.specs.Weights.{told_weight}
use Rattle.vs_typed.proofs.design.process_weights.Goals as goal

pub returns-clause-weights : goal.returns-clause-weights
returns-clause-weights c = c.in_ok-each_weight.ensures ∙ ap (λ (y : Arena). map told_weight (design_of y).processes) c.in-Ok.ensures.same

pub returns-clause-passes : goal.returns-clause-passes
returns-clause-passes c = subst (λ (y : Arena). first_refused (design_of y) ≡ None) c.in-Ok.ensures.same c.in-Ok.ensures.passes
