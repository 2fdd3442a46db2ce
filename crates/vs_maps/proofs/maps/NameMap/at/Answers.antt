use Rattle.std.proofs.Common.{◌∙◌, ap, subst, slice_get, ◌<◌}
use Rattle.vs_maps.proofs.NameMaps.{length_is, values_are}
use Rattle.vs_maps.proofs.maps.NameMap.at.Goals as goal

pub index-requires : goal.index-requires
index-requires g c = subst (λ n. c.args.index < n) (length_is (λ k. k.now) c.args.self.now.map.entries) c.requires

pub returns : goal.returns
returns g c = ap (λ vs. slice_get vs c.args.index) (values_are (λ k. k.now) c.args.self.now.map.entries) ∙ c.index.ensures
