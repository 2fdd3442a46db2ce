use Rattle.std.proofs.Common.{subst, ◌∙◌}
use Rattle.vs_flat.specs.Arena.{Arena}
use Rattle.vs_flat.specs.DesignOf.{design_of}
use Rattle.vs_typed.specs.Refused.{IsFound, first_refused}
use Rattle.vs_typed.proofs.design.weigh.Goals as goal

pub returns-in-Err-clause-refused : goal.returns-in-Err-clause-refused
returns-in-Err-clause-refused c = subst (λ (y : Arena). IsFound (first_refused (design_of y)) c.in-Err.error) (c.note.ensures ∙ c.new-shapes.ensures) c.in-Err.ensures.refused
