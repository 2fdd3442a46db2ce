use Rattle.std.proofs.Common.{ap, ◌∙◌}
use Rattle.vs_design.specs.Refusals.{least}
use Rattle.vs_typed.specs.Places.{initial_places}
use Rattle.vs_reads.proofs.FitKinds.{initial_is}
use Rattle.vs_typed.proofs.refused.least_initial.Goals as goal

pub returns : goal.returns
returns c i h =
    c.least_statement.ensures c.initial.result.at ∙ ap (λ x. least (initial_places c.args.rule x)) (initial_is c.trees_law.ensures.initials c.args.shapes.now c.args.k c.initial.result i c.initial.ensures.is h)
