use Rattle.std.proofs.Common.{◌∙◌, ap, map}
use Rattle.vs_maps.proofs.NameMaps.{pair_of, with_value_of_insert, distinct_of}
use Rattle.vs_maps.proofs.maps.NameMap.put.Goals as goal

pub returns-in_err-insert-clause-distinct : goal.returns-in_err-insert-clause-distinct
returns-in_err-insert-clause-distinct g c = distinct_of (λ k. k.now) _ c.insert.ensures.unique

pub returns-clause-put : goal.returns-clause-put
returns-clause-put g c = ap (map (pair_of (λ k. k.now))) c.in_ok-insert.ensures.entries ∙ with_value_of_insert (λ k. k.now) c.args.name c.args.value c.args.self.now.map.entries

pub returns-clause-distinct : goal.returns-clause-distinct
returns-clause-distinct g c = distinct_of (λ k. k.now) _ c.insert.ensures.unique
