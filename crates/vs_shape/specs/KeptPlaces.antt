-- How the places of a select are kept: they go up from that of its least significant bit.
use Rattle.std.specs.Prelude.{ℕ, ◌≤◌, ◌<◌, ◌^◌, List, map, Option, unsigned_abs}
use Rattle.vs_four.specs.Selects.{below, indices_up}
use Rattle.vs_shape.specs.declared.places.Places.TheInside.{Inside}

abbrev pub kept_places : Inside → List (Option ℕ)
kept_places p = map (below p.range_len) (indices_up p.start p.width)

-- few, and near enough to add to
pub record IsKeptPlaces (p : Inside) : Type 0 where
  pub few : p.width ≤ 64
  pub near : unsigned_abs p.start < 2 ^ 66
