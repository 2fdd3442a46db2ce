-- The first two writers of a bit, in the order of the text.
use Rattle.std.specs.Prelude.{◌≡◌, List, [], ◌∷◌, ◌++◌, map}
use Rattle.vs_design.specs.Designs as D
use Rattle.vs_flat.specs.declared.processes.AnyProcess.{AnyProcess}
use Rattle.vs_flat.specs.TextOrder.{any_of}
use Rattle.vs_driver.specs.declared.writers.Writers.{Writers}
use Rattle.vs_driver.specs.declared.writers.Writers.TheVariants.{Nobody, One, Two}

abbrev pub first_writers : List AnyProcess → Writers
first_writers [] = Nobody
first_writers (x ∷ []) = One x
first_writers (x ∷ y ∷ xs) = Two x y

-- these writers more
abbrev pub AddsWriters : Writers → Writers → List D.AnyProcess → Type 0
AddsWriters before after xs = (earlier : List AnyProcess) → before ≡ first_writers earlier → after ≡ first_writers (earlier ++ map any_of xs)
