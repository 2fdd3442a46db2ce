-- What a refusal of a length or of the size says.
use Rattle.std.specs.Prelude.{◌≡◌, Option, Some}
use Rattle.vs_design.specs.Designs.{Design, AnyProcess, in_text_order}
use Rattle.vs_design.specs.Refusals.{WidthRefusal, least, wide_at, divisions_at, earlier, first_in, width_refusal}
use Rattle.vs_design.specs.Refusals as R
use Rattle.vs_typed.specs.declared.error.WidthError.{WidthError}
use Rattle.vs_typed.specs.declared.error.WidthError.TheVariants.{TooWide, Division, TooLarge, Memory}

-- exactly this refusal; want of memory is free
abbrev pub IsFound : Option WidthRefusal → WidthError → Type 0
IsFound found (TooWide at) = found ≡ Some (R.TooWide at)
IsFound found (Division at) = found ≡ Some (R.Division at)
IsFound found (TooLarge size) = found ≡ Some (R.TooLarge size)
IsFound found Memory = Unit {0}

-- exactly the refusal of the design
abbrev pub IsWidthError : Design → WidthError → Type 0
IsWidthError d e = IsFound (width_refusal d) e

-- what refuses a process or an initial process
abbrev pub refused_in : AnyProcess → Option WidthRefusal
refused_in x = earlier (least (wide_at x)) (least (divisions_at x))

-- and what refuses the first in the text that is refused
abbrev pub first_refused : Design → Option WidthRefusal
first_refused d = first_in refused_in (in_text_order d)
