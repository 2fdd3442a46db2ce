-- The places of a run, whose lanes are numbered from 0, and places that stand one behind the other.
use Rattle.std.specs.Prelude.{ℕ, suc, ◌+◌, List, [], ◌∷◌}
use Rattle.vs_desk.specs.declared.desk.Way.{Way}
use Rattle.vs_desk.specs.Desk.{Register, with_place}

-- the greatest number of lanes
abbrev pub most_lanes : ℕ
most_lanes = 256

-- the text of the design
abbrev pub design_place : ℕ
design_place = 1

-- the stimulus of a lane
abbrev pub stimulus_place : ℕ → ℕ
stimulus_place lane = 1000 + lane

-- the waveform of a lane
abbrev pub waveform_place : ℕ → ℕ
waveform_place lane = 2000 + lane

-- the greatest number of further files of the design
abbrev pub most_others : ℕ
most_others = 64

-- a further file of the design, from 0
abbrev pub other_place : ℕ → ℕ
other_place i = 3000 + i

-- the places from the first one on, attached in this way with these paths
abbrev pub with_places : Register → ℕ → Way → List (List ℕ) → Register
with_places register first way [] = register
with_places register first way (path ∷ paths) = with_places (with_place register first way path) (suc first) way paths
