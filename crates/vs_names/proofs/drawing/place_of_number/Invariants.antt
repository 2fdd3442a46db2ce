use Rattle.std.proofs.Common.{◌≡◌, drop}
use Rattle.vs_flat.specs.DesignOf.{design_of}
use Rattle.vs_names.specs.Drawn.{place_numbered}
use Rattle.vs_names.proofs.drawing.place_of_number.Given as goal

abbrev pub invariant-loop-k : goal.invariant-loop-k
invariant-loop-k l = place_numbered (design_of l.flat).processes (drop l.k (design_of l.flat).initials) l.process ≡ place_numbered (design_of l.flat).processes (design_of l.flat).initials l.number
