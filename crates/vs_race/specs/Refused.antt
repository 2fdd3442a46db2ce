-- What a refusal of a race says.
use Rattle.std.specs.Prelude.{◌≡◌, ◌<◌, ℕ, List, [], true, false, Option, Some, None}
use Rattle.vs_design.specs.Designs.{Process, Design}
use Rattle.vs_design.specs.Footprints.{contains}
use Rattle.vs_design.specs.Races.{race_bits}
use Rattle.vs_design.specs.Refusals.{race_refusal}
use Rattle.vs_design.specs.Refusals as R
use Rattle.vs_race.specs.declared.error.RaceError.{RaceError}
use Rattle.vs_race.specs.declared.error.RaceError.TheVariants.{Race, Memory}

-- exactly the refusal of the design; want of memory is free
abbrev pub IsRaceError : Design → RaceError → Type 0
IsRaceError d (Race process bit at) = race_refusal d ≡ Some (R.Race process bit at)
IsRaceError d Memory = Unit {0}

-- the least bit that the process reads and another clocked block stirs, along this order
abbrev pub IsFirstRaced : Design → List ℕ → ℕ → Process → Option ℕ → Type 0
IsFirstRaced d order p process None = race_bits d order p process ≡ []
IsFirstRaced d order p process (Some bit) = (contains (race_bits d order p process) bit ≡ true) × ((b : ℕ) → b < bit → contains (race_bits d order p process) b ≡ false)
