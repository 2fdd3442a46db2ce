use Rattle.std.proofs.Common.{length, sym, ap, ◌∙◌}
use Rattle.vs_shape.proofs.PlaceSteps.{length-kept}
use Rattle.vs_shape.proofs.places.Places.len.Goals as goal

pub returns-clause-value : goal.returns-clause-value
returns-clause-value c = let i = c.self.inside in sym (length-kept i.range_len i.start i.width) ∙ ap length c.self.view_is
