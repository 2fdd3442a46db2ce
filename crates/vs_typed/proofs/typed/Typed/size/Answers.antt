use Rattle.std.proofs.Common.{ap, ◌∙◌}
use Rattle.vs_design.specs.Sizes.{size}
use Rattle.vs_flat.specs.Arena.{Arena}
use Rattle.vs_flat.specs.DesignOf.{design_of}
use Rattle.vs_typed.proofs.typed.Typed.size.Goals as goal

pub returns-clause-is : goal.returns-clause-is
returns-clause-is c = c.self.invariant.size_is ∙ ap (λ (a : Arena). size (design_of a)) c.self.view_is
