-- What a refusal of drivers says.
use Rattle.std.specs.Prelude.{◌≡◌, ℕ, Some}
use Rattle.vs_design.specs.Designs.{Design, AnyProcess}
use Rattle.vs_design.specs.Refusals.{driver_refusal}
use Rattle.vs_design.specs.Refusals as R
use Rattle.vs_flat.specs.declared.processes.AnyProcess as F
use Rattle.vs_flat.specs.TextOrder.{any_of}
use Rattle.vs_driver.specs.declared.error.DriverError.{DriverError}
use Rattle.vs_driver.specs.declared.error.DriverError.TheVariants.{TwoDrivers, TwoWriters, Memory}

-- two writers by number
pub record AreTwoWriters (d : Design) (bit : ℕ) (first second : F.AnyProcess) : Type 0 where
  pub one : AnyProcess
  pub other : AnyProcess
  pub told : driver_refusal d ≡ Some (R.TwoWriters bit one other)
  pub first_is : any_of one ≡ first
  pub second_is : any_of other ≡ second

-- exactly the refusal of the design; want of memory is free
abbrev pub IsDriverError : Design → DriverError → Type 0
IsDriverError d (TwoDrivers bit first second at) = driver_refusal d ≡ Some (R.TwoDrivers bit first second at)
IsDriverError d (TwoWriters bit first second) = AreTwoWriters d bit first second
IsDriverError d Memory = Unit {0}
