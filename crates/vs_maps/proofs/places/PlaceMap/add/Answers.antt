use Rattle.std.proofs.Common.{◌≡◌, ℕ, List, Option, None, Some, is_some, true, false, map, refl, sym, ap, ◌∙◌}
use Rattle.vs_maps.specs.Places.{Placed, found_at, or_at}
use Rattle.vs_maps.proofs.PlaceMaps.{placed_of, found_of_lookup, found_of_insert, found_again}
use Rattle.vs_maps.proofs.places.PlaceMap.add.Goals as goal

none_is : {A : Type 0} (o : Option A) → is_some o ≡ false → o ≡ None
none_is None h = refl
none_is (Some a) h = cc

pub returns-then-is_some : goal.returns-then-is_some
returns-then-is_some g c = λ other.
    found_again other c.args.place c.args.value (map placed_of c.args.self.now.map.entries)
    (ap is_some (sym (found_of_lookup c.args.place c.args.self.now.map.entries)) ∙ sym c.get_index_of.ensures.found ∙ sym c.is_some.ensures ∙ c.if-is_some.true)

pub returns : goal.returns
returns g c = λ other.
    let out = none_is _ (ap is_some (sym (found_of_lookup c.args.place c.args.self.now.map.entries)) ∙ sym c.get_index_of.ensures.found ∙ sym c.is_some.ensures ∙ c.if-is_some.false) in
    ap (λ es. found_at other (map placed_of es)) c.in_ok-insert.ensures.entries ∙ found_of_insert other c.args.place c.args.value c.args.self.now.map.entries out
