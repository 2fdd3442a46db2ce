-- What is listened to is there.
use Rattle.std.specs.Prelude.{◌<◌, ℕ, List, [], ◌∷◌}
use Rattle.vs_events.specs.Wired.{Sensitivity}

-- the bits are among these many, and so are the processes
abbrev pub AllThere : (count processes : ℕ) → List Sensitivity → Type 0
AllThere count processes [] = Unit {0}
AllThere count processes (s ∷ ss) = (s.bit < count) × (s.listener.process < processes) × AllThere count processes ss
