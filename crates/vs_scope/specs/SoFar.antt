-- The first fault of what is left of a list.
use Rattle.std.specs.Prelude.{◌≡◌, List, Option}
use Rattle.vs_const.specs.declared.faults.Fault.{Fault}
use Rattle.vs_const.specs.Faults.{least, better}

-- of all faults the first is the first of what was found and of the rest
pub record IsFirstSoFar (found : Option Fault) (rest all : List Fault) : Type 0 where
  pub first : better found (least rest) ≡ least all
