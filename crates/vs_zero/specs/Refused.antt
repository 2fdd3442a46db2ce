-- What a refusal at time zero says.
use Rattle.std.specs.Prelude.{◌≡◌, ℕ, List, Some}
use Rattle.vs_design.specs.Designs.{Design}
use Rattle.vs_design.specs.Refusals.{zero_refusal}
use Rattle.vs_design.specs.Refusals as R
use Rattle.vs_zero.specs.declared.error.ZeroError.{ZeroError}
use Rattle.vs_zero.specs.declared.error.ZeroError.TheVariants.{TimeZero, Memory}

-- exactly the refusal of the design by these names of the clocks, or without one; want of memory is free
abbrev pub IsZeroError : Design → List (List ℕ) → ZeroError → Type 0
IsZeroError d names (TimeZero process at) = zero_refusal d names ≡ Some (R.TimeZero process at)
IsZeroError d names Memory = Unit {0}
