use Rattle.std.proofs.Common.{◌∙◌}
use Rattle.vs_maps.proofs.NameMaps.{same_of}
use Rattle.vs_bodies.proofs.layers.is_same_name.Goals as goal

pub returns : goal.returns
returns c = c.eq.ensures ∙ same_of c.args.b.now c.args.a.now
