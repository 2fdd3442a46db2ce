-- What a refusal of the clocks says.
use Rattle.std.specs.Prelude.{◌≡◌, ℕ, List, Some}
use Rattle.vs_design.specs.Designs.{Design}
use Rattle.vs_design.specs.Refusals.{clock_refusal}
use Rattle.vs_design.specs.Refusals as R
use Rattle.vs_clock.specs.declared.error.ClockError.{ClockError}
use Rattle.vs_clock.specs.declared.error.ClockError.TheVariants.{NoClock, ClockRead, NotTheClock, ResetForm, Memory}

-- exactly the refusal of the design by these names of the clocks, or without one; want of memory is free
abbrev pub IsClockError : Design → List (List ℕ) → ClockError → Type 0
IsClockError d names NoClock = clock_refusal d names ≡ Some R.NoClock
IsClockError d names (ClockRead process at) = clock_refusal d names ≡ Some (R.ClockRead process at)
IsClockError d names (NotTheClock process at) = clock_refusal d names ≡ Some (R.NotTheClock process at)
IsClockError d names (ResetForm process at) = clock_refusal d names ≡ Some (R.ResetForm process at)
IsClockError d names Memory = Unit {0}
