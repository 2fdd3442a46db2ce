-- What holds of every design that no length refuses.
use Rattle.std.specs.Prelude.{◌≡◌, ◌≤◌, true, None}
use Rattle.std.specs.List.{list_all}
use Rattle.vs_design.specs.Designs.{Design}
use Rattle.vs_design.specs.Elaborated.{IsLawfulDesign}
use Rattle.vs_design.specs.Fits.{fits_process, fits_initial}
use Rattle.vs_design.specs.Refusals.{width_refusal}
use Rattle.vs_design.specs.Sizes.{size}
use Rattle.vs_typed.specs.Refused.{first_refused}

-- every expression and target of a process has 1 to 64 bits, and nothing divides at run time
abbrev pub EachProcessFits : Type 0
EachProcessFits = (d : Design) → IsLawfulDesign d → width_refusal d ≡ None → list_all fits_process d.processes ≡ true

-- and so has an initial process
abbrev pub EachInitialFits : Type 0
EachInitialFits = (d : Design) → IsLawfulDesign d → width_refusal d ≡ None → list_all fits_initial d.initials ≡ true

abbrev pub SizeIsSmall : Type 0
SizeIsSmall = (d : Design) → width_refusal d ≡ None → size d ≤ 16777216

-- and so it is where none of them is refused
abbrev pub UnrefusedFits : Type 0
UnrefusedFits = (d : Design) → IsLawfulDesign d → first_refused d ≡ None → list_all fits_process d.processes ≡ true

abbrev pub UnrefusedInitialsFit : Type 0
UnrefusedInitialsFit = (d : Design) → IsLawfulDesign d → first_refused d ≡ None → list_all fits_initial d.initials ≡ true
