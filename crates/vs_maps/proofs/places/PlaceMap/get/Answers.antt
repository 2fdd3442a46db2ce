use Rattle.std.proofs.Common.{◌≡◌, Option, None, Some, is_some, false, refl, sym, ◌∙◌}
use Rattle.vs_maps.proofs.PlaceMaps.{found_of_lookup}
use Rattle.vs_maps.proofs.places.PlaceMap.get.Goals as goal

none_is : {A : Type 0} (o : Option A) → is_some o ≡ false → None ≡ o
none_is None h = refl
none_is (Some a) h = cc

pub returns-in-None : goal.returns-in-None
returns-in-None g c = none_is _ (sym c.in-None.ensures.found) ∙ found_of_lookup c.args.place c.args.self.now.map.entries

pub returns-in-Some : goal.returns-in-Some
returns-in-Some g c = sym c.index.ensures ∙ c.in-Some.ensures.value ∙ found_of_lookup c.args.place c.args.self.now.map.entries
