-- The one answer that the rules give of a design: accepted, or the first refusal.
use Rattle.std.specs.Prelude.{◌≡◌, ℕ, Bool, true, false, List, [], ◌∷◌, ◌⊎◌, Some, None}
use Rattle.vs_design.specs.Dead.{without_dead}
use Rattle.vs_design.specs.Designs.{Design}
use Rattle.vs_design.specs.Elaborated.{IsLawfulDesign}
use Rattle.vs_design.specs.Levels.{has_no_cycle}
use Rattle.vs_design.specs.Cycles.{IsCycle}
use Rattle.vs_design.specs.Accepted.{IsAcceptedDesign}
use Rattle.vs_design.specs.Refusals.{WidthRefusal, width_refusal, BlockRefusal, block_refusal, DriverRefusal, driver_refusal, ClockRefusal, clock_refusal, RaceRefusal, race_refusal, ZeroRefusal, zero_refusal, place_at}

pub data DesignRefusal : Type 0 where
  OfWidth : (refusal : WidthRefusal) → DesignRefusal
  OfBlock : (refusal : BlockRefusal) → DesignRefusal
  OfDriver : (refusal : DriverRefusal) → DesignRefusal
  OfClock : (refusal : ClockRefusal) → DesignRefusal
  -- at the first of the processes
  Cycle : (processes : List ℕ) (at : ℕ) → DesignRefusal
  OfRace : (refusal : RaceRefusal) → DesignRefusal
  OfZero : (refusal : ZeroRefusal) → DesignRefusal

abbrev pub first_of : List ℕ → ℕ
first_of [] = 0
first_of (p ∷ ps) = p

-- the rules are tried in this order; which of several cycles is answered is left open
abbrev pub IsRefusedBy : Design → List (List ℕ) → DesignRefusal → Type 0
IsRefusedBy d names (OfWidth r) = width_refusal d ≡ Some r
IsRefusedBy d names (OfBlock r) = (width_refusal d ≡ None) × (block_refusal d ≡ Some r)
IsRefusedBy d names (OfDriver r) = (width_refusal d ≡ None) × (block_refusal d ≡ None) × (driver_refusal d ≡ Some r)
IsRefusedBy d names (OfClock r) = (width_refusal d ≡ None) × (block_refusal d ≡ None) × (driver_refusal d ≡ None) × (clock_refusal d names ≡ Some r)
IsRefusedBy d names (Cycle processes at) = (width_refusal d ≡ None) × (block_refusal d ≡ None) × (driver_refusal d ≡ None) × (clock_refusal d names ≡ None) × IsCycle d processes × (at ≡ place_at d.processes (first_of processes))
IsRefusedBy d names (OfRace r) = (width_refusal d ≡ None) × (block_refusal d ≡ None) × (driver_refusal d ≡ None) × (clock_refusal d names ≡ None) × (has_no_cycle d ≡ true) × (race_refusal d ≡ Some r)
IsRefusedBy d names (OfZero r) = (width_refusal d ≡ None) × (block_refusal d ≡ None) × (driver_refusal d ≡ None) × (clock_refusal d names ≡ None) × (has_no_cycle d ≡ true) × (race_refusal d ≡ None) × (zero_refusal d names ≡ Some r)

-- ---- what the rules that are tried first leave

-- no rule on lengths and blocks refuses the design, nor one on drivers, nor one on the clocks
abbrev pub KeepsBlocks : Design → Type 0
KeepsBlocks d = (width_refusal d ≡ None) × (block_refusal d ≡ None)

abbrev pub KeepsDrivers : Design → Type 0
KeepsDrivers d = (width_refusal d ≡ None) × (block_refusal d ≡ None) × (driver_refusal d ≡ None)

abbrev pub KeepsClock : Design → List (List ℕ) → Type 0
KeepsClock d names = (width_refusal d ≡ None) × (block_refusal d ≡ None) × (driver_refusal d ≡ None) × (clock_refusal d names ≡ None)

-- ---- a design with dead blocks

-- The rules that are asked of the design as it is written, its dead blocks too: those on lengths and the size, on functions and blocks, and on drivers
abbrev pub is_as_written : DesignRefusal → Bool
is_as_written (OfWidth r) = true
is_as_written (OfBlock r) = true
is_as_written (OfDriver r) = true
is_as_written _ = false

-- Then all rules are asked of the design without its dead blocks. This is one of the two, and it breaks a rule in its turn
pub data IsJudged (d : Design) (names : List (List ℕ)) (e : Design) (r : DesignRefusal) : Type 0 where
  AsWritten : e ≡ d → is_as_written r ≡ true → IsRefusedBy d names r → IsJudged d names e r
  AsLeft : e ≡ without_dead d → KeepsDrivers d → IsRefusedBy (without_dead d) names r → IsJudged d names e r

-- ---- laws

-- a design that elaboration gives is accepted or refused, and not both
abbrev pub AcceptedOrRefused : Type 0
AcceptedOrRefused = (d : Design) (names : List (List ℕ)) → IsLawfulDesign d → IsAcceptedDesign d names ⊎ ((r : DesignRefusal) × IsRefusedBy d names r)

abbrev pub NotBoth : Type 0
NotBoth = (d : Design) (names : List (List ℕ)) → IsAcceptedDesign d names → (r : DesignRefusal) → IsRefusedBy d names r → ⊥
