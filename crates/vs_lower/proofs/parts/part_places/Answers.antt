use Rattle.std.proofs.Common.{◌∙◌, ap}
use Rattle.vs_four.specs.Selects.{places}
use Rattle.vs_lower.proofs.parts.part_places.Goals as goal

pub returns-clause-value : goal.returns-clause-value
returns-clause-value c = c.places_of.ensures.value ∙ ap (places (record { range = c.args.selection.range; up = c.args.selection.up; width = c.args.width }) c.args.selection.signed) c.in_ok-bits.ensures
