-- What is weighed of a design that is too large.
use Rattle.std.specs.Prelude.{◌≡◌, ℕ, List, Option, Some, None}
use Rattle.vs_design.specs.Refusals.{WidthRefusal}
use Rattle.vs_flat.specs.DesignOf.{design_of}
use Rattle.vs_typed.specs.Refused.{first_refused}
use Rattle.vs_names.specs.Drawn.{Drawn}
use Rattle.vs_explanation.specs.declared.heavy.Heavy.{Heavy}
use Rattle.vs_explanation.specs.Heavy.{heaviest_of}
use Rattle.vs_reread.specs.Drawings.{IsDrawing}

-- nothing of a design of which a length or a division is refused
abbrev pub unless_refused : {A : Type 0} → Option WidthRefusal → A → Option A
unless_refused None found = Some found
unless_refused (Some refusal) found = None

-- the ten heaviest of its processes
abbrev pub weighed_in : Drawn → Option (List Heavy)
weighed_in d = unless_refused (first_refused (design_of d.flat)) (heaviest_of d)

-- and none where there is no design
abbrev pub weighed_of : Option Drawn → Option (List Heavy)
weighed_of None = None
weighed_of (Some d) = weighed_in d

-- of the design that a text elaborates to
abbrev pub AreWeighed : (text : List ℕ) (top : Option (List ℕ)) → Option (List Heavy) → Type 0
AreWeighed text top heavy = (drawn : Option Drawn) × IsDrawing text top drawn × (heavy ≡ weighed_of drawn)
