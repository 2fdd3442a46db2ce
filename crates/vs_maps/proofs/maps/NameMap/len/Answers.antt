use Rattle.std.proofs.Common.{◌∙◌, sym}
use Rattle.vs_maps.proofs.NameMaps.{length_is}
use Rattle.vs_maps.proofs.maps.NameMap.len.Goals as goal

pub returns : goal.returns
returns g c = c.len.ensures.len ∙ sym (length_is (λ k. k.now) c.args.self.now.map.entries)
