-- What is kept of the stimuli between calls.
use Rattle.std.specs.Prelude.{◌≡◌, length, map, take}
use Rattle.vs_feed.specs.declared.drive.Drive.TheInside.{Inside}
use Rattle.vs_feed.specs.Lanes.{AreLanes}

pub record IsDrive (d : Inside) : Type 0 where
  pub lanes : AreLanes d.stimuli.items
  pub live : take (length d.stimuli.items) d.live ≡ map (λ k. k.live) d.stimuli.items
