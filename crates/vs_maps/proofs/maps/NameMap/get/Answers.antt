use Rattle.std.proofs.Common.{◌≡◌, Option, None, Some, is_some, false, sym, ◌∙◌, refl}
use Rattle.vs_maps.proofs.NameMaps.{value_of_lookup, distinct_of}
use Rattle.vs_maps.proofs.maps.NameMap.get.Goals as goal

none_is : {A : Type 0} (o : Option A) → is_some o ≡ false → None ≡ o
none_is None h = refl
none_is (Some a) h = cc

pub returns-in-None-clause-value : goal.returns-in-None-clause-value
returns-in-None-clause-value g c = none_is _ (sym c.in-None.ensures.found) ∙ value_of_lookup (λ k. k.now) c.args.name.now c.args.self.now.map.entries

pub returns-in-None-clause-distinct : goal.returns-in-None-clause-distinct
returns-in-None-clause-distinct g c = distinct_of (λ k. k.now) _ c.get_index_of.ensures.unique

pub returns-in-Some-clause-value : goal.returns-in-Some-clause-value
returns-in-Some-clause-value g c = sym c.index.ensures ∙ c.in-Some.ensures.value ∙ value_of_lookup (λ k. k.now) c.args.name.now c.args.self.now.map.entries

pub returns-in-Some-clause-distinct : goal.returns-in-Some-clause-distinct
returns-in-Some-clause-distinct g c = distinct_of (λ k. k.now) _ c.get_index_of.ensures.unique
