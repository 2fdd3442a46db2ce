use Rattle.std.proofs.Common.{length, ap, ◌∙◌}
use Rattle.vs_four.specs.PlanesBack.{length-planes}
use Rattle.vs_stim.proofs.Marked.{marked_length}
use Rattle.vs_stim.proofs.wanted.Wanted.any.Goals as goal

pub returns : goal.returns
returns c = marked_length c.of_planes.result 18446744073709551615 ∙ ap (λ bits. length bits) c.of_planes.ensures ∙ length-planes c.args.len 0 0
